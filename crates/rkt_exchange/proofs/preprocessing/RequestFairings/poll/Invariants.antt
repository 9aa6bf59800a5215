use Rattle.std.proofs.Common.{◌≡◌}
use Rattle.rkt_router.specs.Callbacks.{RequestAt}
use Rattle.rkt_fairing.specs.declared.callback.Callback.TheVariants.{Request}
use Rattle.rkt_fairing.specs.InSlot.{slot_request}
use Rattle.rkt_router.specs.Calls.{GateFits, GateRule, any_gate}
use Rattle.rkt_exchange.specs.Asks.{AskInvariant}
use Rattle.rkt_exchange.specs.Chain.{to_call}
use Rattle.rkt_exchange.proofs.preprocessing.RequestFairings.poll.Given as goal

-- the Gate stays; the calls stand for some beginning, and for each that they stood for at first
abbrev pub invariant-loop-next : goal.invariant-loop-next
invariant-loop-next g l =
    (l.lent.live.ctx.gate ≡ l.fn.gate)
    × ((first : RequestAt _ _ _) × AskInvariant (slot_request g.P.RequestCallback.calling) any_gate l.fairings l.turns first l.lent l.next)
    × ((rule : GateRule) (first : RequestAt _ _ _) → GateFits rule l.fn.gate
    → AskInvariant (slot_request g.P.RequestCallback.calling) rule l.fairings l.turns first l.initial.lent l.initial.next
    → AskInvariant (slot_request g.P.RequestCallback.calling) rule l.fairings l.turns first l.lent l.next)

abbrev pub decreases-loop-next : goal.decreases-loop-next
decreases-loop-next g l = to_call Request l.fairings l.next
