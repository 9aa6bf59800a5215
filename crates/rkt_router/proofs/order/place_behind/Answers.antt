use Rattle.std.proofs.Common.{arith, sym, ◌∙◌}
use Rattle.std.proofs.lemmas.Bool.{false≢true}
use Rattle.rkt_router.proofs.Orders.{narrows_front, narrows_back}
use Rattle.rkt_router.proofs.order.place_behind.Goals as goal

pub loop-low-preserved-then-is_before : goal.loop-low-preserved-then-is_before
loop-low-preserved-then-is_before g c =
    narrows_front c.args.routes.now c.args.order.now c.in-Some.position c.loop-low.low c.loop-low.high _ c.requires c.loop-low.invariant (omega arith) (omega arith)
    (c.is_before.ensures.0 c.if-is_before.true)

pub loop-low-preserved : goal.loop-low-preserved
loop-low-preserved g c =
    narrows_back c.args.routes.now c.args.order.now c.in-Some.position c.loop-low.low c.loop-low.high _ c.requires c.loop-low.invariant (omega arith) (omega arith)
    (λ before. false≢true (sym c.if-is_before.false ∙ c.is_before.ensures.1 before))
