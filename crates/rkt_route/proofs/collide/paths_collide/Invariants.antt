use Rattle.std.proofs.Common.{◌↔◌, length}
use Rattle.rkt_route.specs.Collisions.{PathsCollide}
use Rattle.rkt_route.proofs.collide.paths_collide.Given as goal

abbrev pub invariant-loop-a : goal.invariant-loop-a
invariant-loop-a l = PathsCollide l.initial.one l.initial.other ↔ PathsCollide l.one l.other

abbrev pub decreases-loop-a : goal.decreases-loop-a
decreases-loop-a l = length l.one
