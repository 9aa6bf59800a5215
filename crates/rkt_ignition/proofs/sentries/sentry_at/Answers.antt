use Rattle.rkt_ignition.proofs.OfRoutes.{it_is_behind, it_is_here}
use Rattle.rkt_ignition.proofs.sentries.sentry_at.Goals as goal

pub returns-then-left-sentries : goal.returns-then-left-sentries
returns-then-left-sentries g c =
    it_is_here c.args.routes.now c.loop-route.route-index c.loop-route.left c.route-item.result c.as_slice-sentries.result.now _ c.loop-route-test.true c.route-item.is c.as_slice-sentries.ensures c.loop-route.invariant
    c.get.result c.if-left-sentries.true c.get.ensures.lookup

pub loop-route-preserved : goal.loop-route-preserved
loop-route-preserved g c =
    it_is_behind c.args.routes.now c.loop-route.route-index c.loop-route.left c.route-item.result c.as_slice-sentries.result.now _ c.loop-route-test.true c.route-item.is c.as_slice-sentries.ensures c.loop-route.invariant
    c.if-left-sentries.false
