use Rattle.std.proofs.Common.{◌↔◌, not, drop}
use Rattle.std.specs.List.{take_while}
use Rattle.rkt_router.specs.Tries.{Agrees}
use Rattle.rkt_router.proofs.matches.agrees.Given as goal

abbrev pub invariant-loop-at : goal.invariant-loop-at
invariant-loop-at l = Agrees (take_while (λ s. not s.trailing) l.segments) l.names
    ↔ Agrees (take_while (λ s. not s.trailing) (drop l.at l.segments)) (drop l.at l.names)
