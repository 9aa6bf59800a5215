use Rattle.std.proofs.Common.{◌++◌, ◌∙◌, List, ap, codes, map}
use Rattle.rkt_fairing.specs.Below.{route_below}
use Rattle.rkt_route.specs.declared.route.Route.{Route}
use Rattle.rkt_sample.specs.declared.route.SampleRoute.{SampleRoute}
use Rattle.rkt_uri.specs.Origin.{target_of}
use Rattle.rkt_demo.proofs.Mounting.{root_spelled, routes_below}
use Rattle.rkt_demo.proofs.sample.with_routes.Goals as goal

pub returns-in-Ok-mount : goal.returns-in-Ok-mount
returns-in-Ok-mount g c =
    c.in-Ok-mount.ensures.ok
    ∙ ap (λ (routes : List (Route SampleRoute (Unit {0}))). record c.args.rocket { routes = c.args.rocket.routes ++ routes }) (ap (map (route_below (target_of (codes "/")).path)) c.in-Ok.ensures ∙ routes_below)

pub unreachable-requires : goal.unreachable-requires
unreachable-requires g c = (rw c.in-Refused.is at c.in-Err.ensures.refused) root_spelled
