use Rattle.std.proofs.Common.{rules}
use Rattle.rkt_route.specs.RouteUri.{MountedUri}
use Rattle.rkt_route.specs.declared.route.Route.{Route}
use Rattle.rkt_route.proofs.Calls.{refused_on}
use Rattle.rkt_route.proofs.route.Route.from_info.Goals as goal

pub returns-in-Ok-at_root-clause-complete : goal.returns-in-Ok-at_root-clause-complete
returns-in-Ok-at_root-clause-complete g c = λ m spelled. rw (← c.in-Ok-at_root.ensures.complete m spelled) (search rules)

pub returns-in-Err-clause-complete : goal.returns-in-Err-clause-complete
returns-in-Err-clause-complete g c = c.in-Err.ensures.complete

pub returns-in-Err-clause-refused : goal.returns-in-Err-clause-refused
returns-in-Err-clause-refused g c = refused_on MountedUri (Route g.row.H.Denot g.row.S.Denot) c.in-Err.error _ c.in-Err.ensures.refused
