use Rattle.rkt_route.specs.RouteUri.{root}
use Rattle.rkt_route.proofs.Mounted.{root_spelled}
use Rattle.rkt_route.proofs.catcher.root.Goals as goal

pub returns-in-Ok : goal.returns-in-Ok
returns-in-Ok c = c.in-Ok.ensures.complete root root_spelled
