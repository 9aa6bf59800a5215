use Rattle.std.proofs.Common.{rules, ◌≡◌, ◌<◌, ◌++◌, ◌∷◌, [], false, not, length, vec_len, sym, ap, ◌∙◌, subst}
use Rattle.cases_turn.specs.declared.diary.Diary.{Diary}
use Rattle.cases_turn.specs.declared.diary.Entry.{Entry}
use Rattle.cases_turn.specs.declared.diary.Plan.{Plan}
use Rattle.cases_turn.specs.Diary.{entries_of, open_after, IsDiary}
use Rattle.cases_turn.proofs.Entries.{open_last, mine_after, finds_room, writes_next}
use Rattle.rkt_turn.specs.Pass.{known}
use Rattle.cases_turn.proofs.turns.write.Goals as goal

pub add-requires-clause-room : goal.add-requires-clause-room
add-requires-clause-room g c =
    let x = c.enter-turn.result.state in
    let count : vec_len x.entries ≡ length x.entries.items = search rules in
    subst (λ (d : Diary). vec_len d.entries < entries_of d.plan) (sym c.state.ensures.value)
    (subst (λ n. n < entries_of x.plan) (sym count) (finds_room (known c.args.pass.now) x.plan c.requires.may c.enter-turn.ensures.name c.enter-turn.ensures.legal c.enter-turn.ensures.mine))

pub leave-requires-clause-legal : goal.leave-requires-clause-legal
leave-requires-clause-legal g c =
    let x = c.enter-turn.result.state in
    let e : Entry = record { by = c.number-by.result; ends = c.args.ends } in
    let plan : c.add.new.self.plan ≡ x.plan = c.add.ensures.plan ∙ ap (λ (d : Diary). d.plan) c.state.ensures.value in
    let list : c.add.new.self.entries.items ≡ x.entries.items ++ e ∷ [] = c.add.ensures.added ∙ ap (λ (d : Diary). d.entries.items ++ e ∷ []) c.state.ensures.value in
    subst (λ (p : Plan). IsDiary p c.add.new.self.entries.items) (sym plan) (subst (IsDiary x.plan) (sym list)
    (writes_next (known c.args.pass.now) x.plan c.requires.may c.enter-turn.ensures.name c.enter-turn.ensures.legal c.enter-turn.ensures.mine e c.number-by.ensures.number c.requires.next))

pub returns-clause-open : goal.returns-clause-open
returns-clause-open g c =
    let e : Entry = record { by = c.number-by.result; ends = c.args.ends } in
    let v = known c.enter-turn.new.pass in
    let view = c.enter-turn.ensures.view in
    let mine = mine_after v (known c.leave.new.pass) c.add.new.self.entries.items c.enter-turn.result.state.entries.items e c.leave.ensures.added (search rules) (ap (λ w. w.base) view) in
    ap (open_after false) mine ∙ (open_last false v.mine e ∙ ap not (ap (λ w. open_after false w.mine) view ∙ c.requires.next))
