use Rattle.rkt_sample.specs.Mounted.{all_routes, mounted_route}
use Rattle.rkt_sample.proofs.Made.{Made}
use Rattle.rkt_sample.proofs.mounted.routes.Given as goal

abbrev pub invariant-loop-route : goal.invariant-loop-route
invariant-loop-route l = Made mounted_route l.routes.items l.route-index l.route-items all_routes
