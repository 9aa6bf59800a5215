use Rattle.std.proofs.Common.{◌++◌, List, refl}
use Rattle.rkt_fairing.specs.Below.{route_below}
use Rattle.rkt_grammar.specs.Grammar.{LeavesAt}
use Rattle.rkt_life.specs.declared.build_error.BuildError.TheVariants.{Base, Uri}
use Rattle.rkt_route.specs.RouteUri.{root}
use Rattle.rkt_route.specs.declared.route.Route.{Route}
use Rattle.rkt_uri.specs.Origin.{IsOrigin}
use Rattle.rkt_uri.specs.declared.origin_place.Profile.TheVariants.{Route as RouteText}
use Rattle.rkt_lines.specs.Building.{IsRouteFault}
use Rattle.rkt_lines.proofs.Added.{one_more}
use Rattle.rkt_lines.proofs.Faults.{only_memory, told_fault}
use Rattle.rkt_lines.proofs.Rooted.{root_is_origin}
use Rattle.rkt_lines.proofs.building.RocketOfAppBuildingBuilds.route.Goals as goal

pub returns-in_err-routes-clause-refused : goal.returns-in_err-routes-clause-refused
returns-in_err-routes-clause-refused g c =
    told_fault (IsRouteFault c.args.uri.now) tt Uri (λ e. LeavesAt (IsOrigin RouteText) c.args.uri.now e.at) (λ e cause. cause)
    c.routes.result c.in_err-routes.field-0.0 c.from_residual.result c.in_err-routes.was c.from_residual.ensures.1 c.routes.ensures.refused

pub returns-in_err-mount-clause-refused : goal.returns-in_err-mount-clause-refused
returns-in_err-mount-clause-refused g c =
    only_memory (IsRouteFault c.args.uri.now) tt Base _ root_is_origin
    c.mount.result c.in_err-mount.field-0.0 c.in_err-mount.field-0.0.error c.from_residual-in_err-mount.result
    c.in_err-mount.was refl c.from_residual-in_err-mount.ensures.1 c.mount.ensures.refused

pub returns-clause-mounted : goal.returns-clause-mounted
returns-clause-mounted g c =
    let own : OwnRoute = c.in_ok-routes.ensures.read.0 in (
      route_below root.path own,
      record { own = own; read = rw c.into_handler.ensures at c.in_ok-routes.ensures.read.1; below = refl },
      one_more (λ (routes : List OwnRoute). record c.args.self { routes = c.args.self.routes ++ routes }) (route_below root.path)
          c.in_ok-mount.field-0 c.in_ok-routes.routes.items own c.in_ok-mount.ensures.ok c.in_ok-routes.ensures.read.2,
    )
  where
    OwnRoute : Type 0
    OwnRoute = Route g.row.A-Handler.Denot g.row.A-Sentinel.Denot
