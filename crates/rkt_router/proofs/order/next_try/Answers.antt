use Rattle.rkt_router.proofs.Orders.{none_next, first_next}
use Rattle.rkt_router.proofs.order.next_try.Goals as goal

pub returns-in_err-place : goal.returns-in_err-place
returns-in_err-place g c =
    rw c.from_residual.ensures (none_next c.args.routes.now c.args.order.now c.args.request.now c.args.after c.place_behind.result c.requires c.place_behind.ensures c.in_err-place.ensures)

pub returns : goal.returns
returns g c = first_next c.args.routes.now c.args.order.now c.args.request.now c.args.after c.place_behind.result _ c.requires c.place_behind.ensures c.in_ok-place.ensures
