use Rattle.std.proofs.Common.{refl}
use Rattle.rkt_route.specs.RouteUri.{MountedUri}
use Rattle.rkt_route.specs.declared.route.Route.{Route}
use Rattle.rkt_route.proofs.Calls.{refused_on}
use Rattle.rkt_route.proofs.route.Route.map_base.Goals as goal

pub returns-in-Err-clause-refused : goal.returns-in-Err-clause-refused
returns-in-Err-clause-refused g c = refused_on MountedUri (Route g.row.H.Denot g.row.S.Denot) c.in-Err.error _ c.in-Err.ensures.refused

pub returns-in-Ok-clause-accepted : goal.returns-in-Ok-clause-accepted
returns-in-Ok-clause-accepted g c =
    let accepted = c.in-Ok.ensures.accepted in (
      accepted.0,
      accepted.1,
      record { mounted = rw c.replace.ensures.after accepted.2; kept = refl },
    )
