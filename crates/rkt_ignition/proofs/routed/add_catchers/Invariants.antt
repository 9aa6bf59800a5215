use Rattle.std.proofs.Common.{◌≡◌, ◌++◌}
use Rattle.rkt_ignition.proofs.routed.add_catchers.Given as goal

abbrev pub invariant-loop-catcher : goal.invariant-loop-catcher
invariant-loop-catcher g l =
    (l.router.catchers ++ l.catcher-iterator.rest.items ≡ l.fn.router.catchers ++ l.fn.catchers.items) × (l.router.routes ≡ l.fn.router.routes)
