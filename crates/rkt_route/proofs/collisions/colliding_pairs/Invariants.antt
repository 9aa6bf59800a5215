use Rattle.rkt_route.specs.Pairs.{AreCollisionsBefore}
use Rattle.rkt_route.proofs.collisions.colliding_pairs.Given as goal

abbrev pub invariant-loop-first : goal.invariant-loop-first
invariant-loop-first g l = AreCollisionsBefore g.X.Collide.collides l.items (l.first, 0) l.pairs
