use Rattle.std.proofs.Common.{◌≡◌, ◌++◌}
use Rattle.rkt_ignition.proofs.routed.add_routes.Given as goal

abbrev pub invariant-loop-route : goal.invariant-loop-route
invariant-loop-route g l =
    (l.router.routes ++ l.route-iterator.rest.items ≡ l.fn.router.routes ++ l.fn.routes.items) × (l.router.catchers ≡ l.fn.router.catchers)
