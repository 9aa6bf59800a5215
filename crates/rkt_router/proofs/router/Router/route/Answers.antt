use Rattle.rkt_router.proofs.Walks.{walk_gives}
use Rattle.rkt_router.proofs.router.Router.route.Goals as goal

pub returns : goal.returns
returns g c =
    rw (← c.self.view_is) (walk_gives c.new.result c.self.inside.routes c.as_slice.result.now c.self.inside.order.items c.as_slice-2.result.now c.args.request.now c.new.ensures c.as_slice.ensures
    c.as_slice-2.ensures.value c.self.invariant)
