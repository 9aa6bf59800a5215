use Rattle.std.proofs.Common.{◌≡◌}
use Rattle.rkt_fairing.specs.declared.callback.Callback.TheVariants.{Response}
use Rattle.rkt_fairing.specs.InSlot.{slot_response}
use Rattle.rkt_router.specs.Calls.{GateFits, GateRule, any_gate}
use Rattle.rkt_exchange.specs.Answers.{AnswerInvariant, Outgoing}
use Rattle.rkt_exchange.specs.Chain.{to_call}
use Rattle.rkt_exchange.proofs.finalizing.ResponseFairings.poll.Given as goal

-- the Gate stays; the calls stand for some beginning, and for each that they stood for at first
abbrev pub invariant-loop-next : goal.invariant-loop-next
invariant-loop-next g l =
    (l.lent.live.ctx.gate ≡ l.fn.gate)
    × ((first : Outgoing _ _ _) × AnswerInvariant (slot_response g.Q.ResponseCallback.calling) any_gate l.fairings l.turns first l.lent l.next)
    × ((rule : GateRule) (first : Outgoing _ _ _) → GateFits rule l.fn.gate
    → AnswerInvariant (slot_response g.Q.ResponseCallback.calling) rule l.fairings l.turns first l.initial.lent l.initial.next
    → AnswerInvariant (slot_response g.Q.ResponseCallback.calling) rule l.fairings l.turns first l.lent l.next)

abbrev pub decreases-loop-next : goal.decreases-loop-next
decreases-loop-next g l = to_call Response l.fairings l.next
