use Rattle.std.proofs.Common.{◌-◌}
use Rattle.rkt_router.proofs.Orders.{Narrows}
use Rattle.rkt_router.proofs.order.place_behind.Given as goal

abbrev pub invariant-loop-low : goal.invariant-loop-low
invariant-loop-low g l = Narrows l.routes l.order l.position l.low l.high

abbrev pub decreases-loop-low : goal.decreases-loop-low
decreases-loop-low g l = l.high - l.low
