use Rattle.rkt_sample.specs.Mounted.{all_routes, mounted_route}
use Rattle.rkt_sample.specs.declared.route.SampleRoute.TheVariants.{Hello}
use Rattle.rkt_sample.proofs.Made.{made_more}
use Rattle.rkt_sample.proofs.mounted.routes.Goals as goal

pub loop-route-preserved : goal.loop-route-preserved
loop-route-preserved c =
    made_more mounted_route c.loop-route.routes.items c.push.new.self.items c.loop-route.route-index all_routes all_routes Hello c.in_ok-mounted.field-0 c.loop-route.invariant c.loop-route-test.true c.in_ok-mounted.ensures
    c.in_ok-push.ensures.items
