use Rattle.std.proofs.Common.{◌∙◌}
use Rattle.rkt_router.proofs.Orders.{order_in, sorted_in}
use Rattle.rkt_router.proofs.router.Router.add_route.Goals as goal

pub place_behind-place-requires : goal.place_behind-place-requires
place_behind-place-requires g c =
    sorted_in c.self.inside.routes c.as_slice.result.now c.args.route c.self.inside.order.items c.as_slice-2.result.now (c.as_slice.ensures ∙ c.in_ok-push.ensures.ok)
    (c.as_slice-2.ensures.value ∙ c.reserve.ensures.items) c.self.invariant

pub invariant_of-self-2 : goal.invariant_of-self-2
invariant_of-self-2 g c =
    order_in c.self.inside.routes c.push.new.self c.as_slice.result.now c.args.route c.self.inside.order.items c.reserve.new.self.items c.as_slice-2.result.now c.insert.new.self.items
    c.place_behind-place.result c.len-position.result c.in_ok-push.ensures.ok c.reserve.ensures.items c.as_slice.ensures c.as_slice-2.ensures.value c.len-position.ensures
    c.in_ok-insert.ensures.items c.self.invariant c.place_behind-place.ensures
