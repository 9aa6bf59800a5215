use Rattle.std.proofs.Common.{take}
use Rattle.rkt_grammar.proofs.Faults.{Follows}
use Rattle.rkt_grammar.proofs.grammar.first_fault_in.Given as goal

-- what may follow the place is what may follow the bytes so far
abbrev pub invariant-loop-at : goal.invariant-loop-at
invariant-loop-at g l = Follows (g.P.Place.rest_of l.fn.start) (take l.at l.text) (g.P.Place.rest_of l.place)
