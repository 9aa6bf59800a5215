use Rattle.std.proofs.Common.{◌∙◌, ap, arith, refl}
use Rattle.rkt_fairing.specs.declared.callback.Callback.TheVariants.{Response}
use Rattle.rkt_router.specs.CallLaws.{any_gate_fits}
use Rattle.rkt_fairing.specs.InSlot.{slot_response}
use Rattle.rkt_router.specs.Calls.{any_gate}
use Rattle.rkt_exchange.proofs.AnswerTurns.{answer_backs, answer_made, answer_turned}
use Rattle.rkt_exchange.proofs.Chaining.{calls_end, found_within}
use Rattle.rkt_exchange.specs.Answers.{AnsweredGives, InvariantFor, answered_at, answering}
use Rattle.rkt_exchange.proofs.finalizing.ResponseFairings.poll.Goals as goal

pub returns-in_default : goal.returns-in_default
unfolding AnsweredGives InvariantFor
returns-in_default g c = λ rule first fits stands.
    let start = rw (← c.self.view_is) at stands in
    let now = c.loop-next.invariant.2 rule first fits (rw c.set_gate.ensures (record { request = start.request; calls = start.calls })) in
    let ends = calls_end (answering (slot_response g.Q.ResponseCallback.calling) rule c.self.inside.fairings.now c.self.inside.turns first.request) first.at first.at.kept.shutdown (answered_at c.loop-next.lent) c.loop-next.lent.live.calls (rw c.in_default.is at now.calls) in
    rw (← c.self.view_is) (now.request, ends.0, ends.1)

pub invariant_of-result : goal.invariant_of-result
unfolding InvariantFor
invariant_of-result g c =
    let begun = c.loop-next.invariant.1.0 in
    let was = c.loop-next.invariant.1.1 in
    let waits = rw c.in_default-turn.is at (answer_turned (slot_response g.Q.ResponseCallback.calling) any_gate c.self.inside.fairings.now c.self.inside.turns begun c.loop-next.lent c.in-Some.call c.max-most.result c.in-Some-get.fairing.now
    (record { response = c.turn_response-turn.new.response; kept = c.turn_response-turn.new.ctx.kept }) c.turn_response-turn.new.task c.args.gate c.turn_response-turn.result c.max-most.ensures (any_gate_fits c.args.gate) c.loop-next.invariant.0 c.in-Some-get.ensures.found c.turn_response-turn.ensures.left c.turn_response-turn.ensures.pending
    (λ before making. (c.turn_response-turn.ensures.grows any_gate before making).shutdown) (λ before fits making. c.turn_response-turn.ensures.gives any_gate before fits making) (rw c.in-Some.is at was)) in
    record { first = begun; stands = record { request = was.request; calls = waits.0 } }

pub returns-in_default-turn : goal.returns-in_default-turn
unfolding AnsweredGives InvariantFor
returns-in_default-turn g c = λ rule first fits stands.
    let start = rw (← c.self.view_is) at stands in
    let now = c.loop-next.invariant.2 rule first fits (rw c.set_gate.ensures (record { request = start.request; calls = start.calls })) in
    let waits = rw c.in_default-turn.is at (answer_turned (slot_response g.Q.ResponseCallback.calling) rule c.self.inside.fairings.now c.self.inside.turns first c.loop-next.lent c.in-Some.call c.max-most.result c.in-Some-get.fairing.now
    (record { response = c.turn_response-turn.new.response; kept = c.turn_response-turn.new.ctx.kept }) c.turn_response-turn.new.task c.args.gate c.turn_response-turn.result c.max-most.ensures fits c.loop-next.invariant.0 c.in-Some-get.ensures.found c.turn_response-turn.ensures.left c.turn_response-turn.ensures.pending
    (λ before making. (c.turn_response-turn.ensures.grows rule before making).shutdown) (λ before fits making. c.turn_response-turn.ensures.gives rule before fits making) (rw c.in-Some.is at now)) in
    rw (← c.self.view_is) (refl, refl, record { request = now.request; calls = waits.0 }, waits)

pub returns-in_default-called : goal.returns-in_default-called
unfolding AnsweredGives InvariantFor
returns-in_default-called g c = λ rule first fits stands.
    let start = rw (← c.self.view_is) at stands in
    let now = c.loop-next.invariant.2 rule first fits (rw c.set_gate.ensures (record { request = start.request; calls = start.calls })) in
    rw (← c.self.view_is, c.give_up.ensures, c.in_default-called.ensures.shutdown) (answer_backs (slot_response g.Q.ResponseCallback.calling) rule c.self.inside.fairings.now c.self.inside.turns first c.loop-next.lent c.in-Some.call c.max-most.result c.in-Some-get.fairing.now
    (record { response = c.turn_response-turn.new.response; kept = c.turn_response-turn.new.ctx.kept }) c.max-most.ensures c.in-Some-get.ensures.found (λ before making. (c.turn_response-turn.ensures.grows rule before making).shutdown) (rw c.in-Some.is at now))

pub loop-next-smaller-in-Ok : goal.loop-next-smaller-in-Ok
loop-next-smaller-in-Ok g c =
    let was = rw c.in-Some.is at c.loop-next.invariant.1.1.calls in
    let within = found_within Response c.self.inside.fairings.now c.in-Some.call.place {fairing = was.fairing} was.found in
    let falls = c.in-Ok.ensures.falls within in
    rw c.in-Some.is (omega (arith, falls))

pub loop-next-preserved-in-Ok : goal.loop-next-preserved-in-Ok
loop-next-preserved-in-Ok g c =
    let begun = c.loop-next.invariant.1.0 in
    let was = c.loop-next.invariant.1.1 in
    let answered = rw c.in-Over.is at (answer_turned (slot_response g.Q.ResponseCallback.calling) any_gate c.self.inside.fairings.now c.self.inside.turns begun c.loop-next.lent c.in-Some.call c.max-most.result c.in-Some-get.fairing.now
    (record { response = c.turn_response-turn.new.response; kept = c.turn_response-turn.new.ctx.kept }) c.turn_response-turn.new.task c.args.gate c.turn_response-turn.result c.max-most.ensures (any_gate_fits c.args.gate) c.loop-next.invariant.0 c.in-Some-get.ensures.found c.turn_response-turn.ensures.left c.turn_response-turn.ensures.pending
    (λ before making. (c.turn_response-turn.ensures.grows any_gate before making).shutdown) (λ before fits making. c.turn_response-turn.ensures.gives any_gate before fits making) (rw c.in-Some.is at was)) in (
      c.in-Ok.ensures.gate ∙ c.turn_response-turn.ensures.gate ∙ c.loop-next.invariant.0,
      (begun, c.in-Ok.ensures.gives any_gate begun (record { request = was.request; call = answered })),
      λ rule first fits start.
          let now = c.loop-next.invariant.2 rule first fits start in
          c.in-Ok.ensures.gives rule first (record {
            request = now.request;
            call = rw c.in-Over.is at (answer_turned (slot_response g.Q.ResponseCallback.calling) rule c.self.inside.fairings.now c.self.inside.turns first c.loop-next.lent c.in-Some.call c.max-most.result c.in-Some-get.fairing.now
                (record { response = c.turn_response-turn.new.response; kept = c.turn_response-turn.new.ctx.kept }) c.turn_response-turn.new.task c.args.gate c.turn_response-turn.result c.max-most.ensures fits c.loop-next.invariant.0 c.in-Some-get.ensures.found c.turn_response-turn.ensures.left c.turn_response-turn.ensures.pending
                (λ before making. (c.turn_response-turn.ensures.grows rule before making).shutdown) (λ before fits making. c.turn_response-turn.ensures.gives rule before fits making) (rw c.in-Some.is at now));
          }),
    )

pub loop-next-preserved : goal.loop-next-preserved
loop-next-preserved g c =
    let begun = c.loop-next.invariant.1.0 in
    let was = c.loop-next.invariant.1.1 in
    let answered = rw c.in-Over.is at (answer_turned (slot_response g.Q.ResponseCallback.calling) any_gate c.self.inside.fairings.now c.self.inside.turns begun c.loop-next.lent c.in-Some.call c.max-most.result c.in-Some-get.fairing.now
    (record { response = c.turn_response-turn.new.response; kept = c.turn_response-turn.new.ctx.kept }) c.turn_response-turn.new.task c.args.gate c.turn_response-turn.result c.max-most.ensures (any_gate_fits c.args.gate) c.loop-next.invariant.0 c.in-Some-get.ensures.found c.turn_response-turn.ensures.left c.turn_response-turn.ensures.pending
    (λ before making. (c.turn_response-turn.ensures.grows any_gate before making).shutdown) (λ before fits making. c.turn_response-turn.ensures.gives any_gate before fits making) (rw c.in-Some.is at was)) in (
      c.in-Ok.ensures.gate ∙ c.turn_response-turn.ensures.gate ∙ c.loop-next.invariant.0,
      (begun, c.in-Ok.ensures.gives any_gate begun (record { request = was.request; call = answered })),
      λ rule first fits start.
          let now = c.loop-next.invariant.2 rule first fits start in
          c.in-Ok.ensures.gives rule first (record {
            request = now.request;
            call = rw c.in-Over.is at (answer_turned (slot_response g.Q.ResponseCallback.calling) rule c.self.inside.fairings.now c.self.inside.turns first c.loop-next.lent c.in-Some.call c.max-most.result c.in-Some-get.fairing.now
                (record { response = c.turn_response-turn.new.response; kept = c.turn_response-turn.new.ctx.kept }) c.turn_response-turn.new.task c.args.gate c.turn_response-turn.result c.max-most.ensures fits c.loop-next.invariant.0 c.in-Some-get.ensures.found c.turn_response-turn.ensures.left c.turn_response-turn.ensures.pending
                (λ before making. (c.turn_response-turn.ensures.grows rule before making).shutdown) (λ before fits making. c.turn_response-turn.ensures.gives rule before fits making) (rw c.in-Some.is at now));
          }),
    )

pub loop-next-init : goal.loop-next-init
unfolding InvariantFor
loop-next-init g c = (ap (λ x. x.gate) c.set_gate.ensures, (c.self.invariant.first, rw c.set_gate.ensures (record { request = c.self.invariant.stands.request; calls = c.self.invariant.stands.calls })), λ rule first fits stands. stands)

pub turn_response-turn-requires : goal.turn_response-turn-requires
turn_response-turn-requires g c =
    let was = rw c.in-Some.is at c.loop-next.invariant.1.1 in
    let made = answer_made (slot_response g.Q.ResponseCallback.calling) any_gate c.self.inside.fairings.now c.self.inside.turns c.loop-next.invariant.1.0 c.loop-next.lent c.in-Some.call c.max-most.result c.in-Some-get.fairing.now c.max-most.ensures c.in-Some-get.ensures.found was in
    record { underway = (any_gate, made.0, made.1) }
