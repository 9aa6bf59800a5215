use Rattle.std.proofs.Common.{arith}
use Rattle.rkt_route.proofs.Pairs.{all_pairs, pairs_none}
use Rattle.rkt_route.proofs.collisions.colliding_pairs.Goals as goal

pub loop-first-init : goal.loop-first-init
loop-first-init g c = rw c.new-pairs.ensures (pairs_none g.X.Collide.collides c.args.items.now)

pub returns : goal.returns
returns g c = all_pairs g.X.Collide.collides c.args.items.now c.loop-first.first c.loop-first.pairs (omega arith) c.loop-first.invariant
