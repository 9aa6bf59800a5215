use Rattle.std.proofs.Common.{List, ℕ, subst, IfNone, IfSome}
use Rattle.rkt_grammar.specs.Grammar.{LeavesAt}
use Rattle.rkt_grammar.proofs.grammar.first_fault.Goals as goal

pub returns-clause-none : goal.returns-clause-none
returns-clause-none g c =
    let P : List ℕ → Type 0 = λ text. IfNone c.first_fault_in.result (g.P.Place.rest_of c.args.start text) in
    subst P c.as_bytes.ensures.value c.first_fault_in.ensures.none

pub returns-clause-some : goal.returns-clause-some
returns-clause-some g c =
    let P : List ℕ → Type 0 = λ text. IfSome c.first_fault_in.result (LeavesAt (g.P.Place.rest_of c.args.start) text) in
    subst P c.as_bytes.ensures.value c.first_fault_in.ensures.some
