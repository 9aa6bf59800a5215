use Rattle.std.proofs.Common.{rules}
use Rattle.rkt_route.proofs.route.Route.ranked.Goals as goal

pub returns-clause-complete : goal.returns-clause-complete
returns-clause-complete g c = λ m spelled. rw (← c.in_ok-uri.ensures.complete m spelled) (search rules)
