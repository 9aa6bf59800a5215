use Rattle.std.proofs.Common.{refl}
use Rattle.rkt_router.proofs.Orders.{matching_within}
use Rattle.rkt_router.proofs.tries.TriesIterator.next.Goals as goal

pub route_at-requires : goal.route_at-requires
route_at-requires g c = matching_within c.self.inside.routes.now c.self.inside.request.now _ c.in_ok-place.ensures.matching

pub returns-clause-steps : goal.returns-clause-steps
returns-clause-steps g c = rw (← c.self.view_is) (c.in_ok-place.place, c.in_ok-place.ensures, refl, c.route_at.ensures, refl)
