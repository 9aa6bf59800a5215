use Rattle.rkt_fairing.specs.Below.{route_below}
use Rattle.rkt_fairing.proofs.Moving.{MovesOn}
use Rattle.rkt_fairing.proofs.below.routes_below.Given as goal

abbrev pub invariant-loop-route : goal.invariant-loop-route
invariant-loop-route g l = MovesOn (route_below l.base.path) l.moved.items l.route-iterator.rest.items l.fn.routes.items
