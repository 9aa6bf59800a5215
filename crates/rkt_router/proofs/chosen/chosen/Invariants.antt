use Rattle.rkt_router.specs.Choice.{IsBestSoFar}
use Rattle.rkt_router.proofs.chosen.chosen.Given as goal

abbrev pub invariant-loop-position : goal.invariant-loop-position
invariant-loop-position g l = IsBestSoFar l.catchers l.status.code l.request l.position l.best
