use Rattle.std.proofs.Common.{arith}
use Rattle.std.proofs.lemmas.Grind.{common_steps}
use Rattle.rkt_fairing.proofs.Moving.{moving_begins, moving_ends, moving_goes_on}
use Rattle.rkt_fairing.proofs.below.routes_below.Goals as goal

pub loop-route-init : goal.loop-route-init
loop-route-init g c = moving_begins _ _ _ _ c.new-moved.ensures.items c.into_iter-route-iterator.ensures.into_iter_gives.0

pub loop-route-preserved : goal.loop-route-preserved
loop-route-preserved g c =
    moving_goes_on _ _ _ _ _ _ c.in-Some.route c.in_ok-route_below.field-0 c.loop-route.invariant c.in-Some.ensures.steps.0 c.in_ok-route_below.ensures c.in_ok-push.ensures.items

pub returns : goal.returns
returns g c = moving_ends _ _ _ _ c.loop-route.invariant (grind (arith, common_steps))
