use Rattle.rkt_route.specs.Pairs.{AreCollisionsBefore}
use Rattle.rkt_route.proofs.collisions.add_pairs.Given as goal

abbrev pub invariant-loop-second : goal.invariant-loop-second
invariant-loop-second g l = AreCollisionsBefore g.X.Collide.collides l.items (l.first, l.second) l.pairs
