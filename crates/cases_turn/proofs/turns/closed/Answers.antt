use Rattle.std.proofs.Common.{◌≡◌, Some, map, sym, ap, ◌∙◌, subst}
use Rattle.cases_turn.specs.declared.diary.Plan.{Plan}
use Rattle.cases_turn.specs.Diary.{IsDiary}
use Rattle.cases_turn.proofs.Entries.{joined_name}
use Rattle.rkt_turn.specs.Pass.{known}
use Rattle.cases_turn.proofs.turns.closed.Goals as goal

pub returns-clause-diary : goal.returns-clause-diary
returns-clause-diary c = λ plan named.
    let x = c.close-entries.result in
    let v = known c.args.first in
    let theirs : v.name ≡ Some x.plan = sym (joined_name v (map known c.args.others.items)) ∙ (sym (ap (λ w. w.name) c.join_all.ensures.view) ∙ c.close-entries.ensures.name) in
    let same : x.plan ≡ plan = cc (named, theirs) in
    subst (λ (p : Plan). IsDiary p x.entries.items) same c.close-entries.ensures.legal
