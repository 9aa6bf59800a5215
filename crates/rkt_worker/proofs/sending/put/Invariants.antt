use Rattle.std.proofs.Common.{◌≡◌}
use Rattle.rkt_worker.specs.Gates.{MayStand}
use Rattle.rkt_worker.proofs.sending.put.Given as goal

-- nothing was taken yet, and the piece is at hand
abbrev pub invariant-loop : goal.invariant-loop
invariant-loop g l = (goal.iterator-loop g).can_next l.iterator' × (goal.iterator-loop g).is_finite l.iterator'
    × g.G.Gates.keeps l.gates
    × g.G.Gates.leads l.initial.gates l.gates
    × MayStand (g.G.Gates.watched l.gates) l.io.stage
    × (g.K.Link.meaning l.io.io ≡ g.K.Link.meaning l.initial.io.io)
    × (l.piece ≡ l.fn.piece)
