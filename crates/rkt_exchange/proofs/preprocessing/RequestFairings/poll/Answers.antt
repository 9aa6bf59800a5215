use Rattle.std.proofs.Common.{◌∙◌, ap, arith, refl}
use Rattle.rkt_fairing.specs.declared.callback.Callback.TheVariants.{Request}
use Rattle.rkt_router.specs.CallLaws.{any_gate_fits}
use Rattle.rkt_fairing.specs.InSlot.{slot_request}
use Rattle.rkt_router.specs.Calls.{any_gate}
use Rattle.rkt_exchange.proofs.AskTurns.{ask_backs, ask_made, ask_turned}
use Rattle.rkt_exchange.proofs.Chaining.{calls_end, found_within}
use Rattle.rkt_exchange.specs.Asks.{AskedGives, InvariantFor, asked_at, asking}
use Rattle.rkt_exchange.proofs.preprocessing.RequestFairings.poll.Goals as goal

pub returns-in_default : goal.returns-in_default
unfolding AskedGives InvariantFor
returns-in_default g c = λ rule first fits stands.
    let start = rw (← c.self.view_is) at stands in
    let now = c.loop-next.invariant.2 rule first fits (rw c.set_gate.ensures (record { calls = start.calls })) in
    rw (← c.self.view_is) (calls_end (asking (slot_request g.P.RequestCallback.calling) rule c.self.inside.fairings.now c.self.inside.turns) first first.kept.shutdown (asked_at c.loop-next.lent) c.loop-next.lent.live.calls (rw c.in_default.is at now.calls))

pub invariant_of-result : goal.invariant_of-result
unfolding InvariantFor
invariant_of-result g c =
    let begun = c.loop-next.invariant.1.0 in
    let waits = rw c.in_default-turn.is at (ask_turned (slot_request g.P.RequestCallback.calling) any_gate c.self.inside.fairings.now c.self.inside.turns begun c.loop-next.lent c.in-Some.call c.max-most.result c.in-Some-get.fairing.now
    (record { request = c.turn_request-turn.new.request; body = c.turn_request-turn.new.body; kept = c.turn_request-turn.new.ctx.kept }) c.turn_request-turn.new.task c.args.gate c.turn_request-turn.result c.max-most.ensures (any_gate_fits c.args.gate) c.loop-next.invariant.0 c.in-Some-get.ensures.found c.turn_request-turn.ensures.left c.turn_request-turn.ensures.pending
    (λ before making. (c.turn_request-turn.ensures.grows any_gate before making).kept.shutdown) (λ before fits making. c.turn_request-turn.ensures.gives any_gate before fits making) (rw c.in-Some.is at c.loop-next.invariant.1.1)) in
    record { first = begun; stands = record { calls = waits.0 } }

pub returns-in_default-turn : goal.returns-in_default-turn
unfolding AskedGives InvariantFor
returns-in_default-turn g c = λ rule first fits stands.
    let start = rw (← c.self.view_is) at stands in
    let now = c.loop-next.invariant.2 rule first fits (rw c.set_gate.ensures (record { calls = start.calls })) in
    let waits = rw c.in_default-turn.is at (ask_turned (slot_request g.P.RequestCallback.calling) rule c.self.inside.fairings.now c.self.inside.turns first c.loop-next.lent c.in-Some.call c.max-most.result c.in-Some-get.fairing.now
    (record { request = c.turn_request-turn.new.request; body = c.turn_request-turn.new.body; kept = c.turn_request-turn.new.ctx.kept }) c.turn_request-turn.new.task c.args.gate c.turn_request-turn.result c.max-most.ensures fits c.loop-next.invariant.0 c.in-Some-get.ensures.found c.turn_request-turn.ensures.left c.turn_request-turn.ensures.pending
    (λ before making. (c.turn_request-turn.ensures.grows rule before making).kept.shutdown) (λ before fits making. c.turn_request-turn.ensures.gives rule before fits making) (rw c.in-Some.is at now)) in
    rw (← c.self.view_is) (refl, refl, record { calls = waits.0 }, waits)

pub returns-in_default-called : goal.returns-in_default-called
unfolding AskedGives InvariantFor
returns-in_default-called g c = λ rule first fits stands.
    let start = rw (← c.self.view_is) at stands in
    let now = c.loop-next.invariant.2 rule first fits (rw c.set_gate.ensures (record { calls = start.calls })) in
    rw (← c.self.view_is, c.give_up.ensures, c.in_default-called.ensures.shutdown) (ask_backs (slot_request g.P.RequestCallback.calling) rule c.self.inside.fairings.now c.self.inside.turns first c.loop-next.lent c.in-Some.call c.max-most.result c.in-Some-get.fairing.now
    (record { request = c.turn_request-turn.new.request; body = c.turn_request-turn.new.body; kept = c.turn_request-turn.new.ctx.kept }) c.max-most.ensures c.in-Some-get.ensures.found (λ before making. (c.turn_request-turn.ensures.grows rule before making).kept.shutdown) (rw c.in-Some.is at now))

pub loop-next-smaller-in-Ok : goal.loop-next-smaller-in-Ok
loop-next-smaller-in-Ok g c =
    let was = rw c.in-Some.is at c.loop-next.invariant.1.1.calls in
    let within = found_within Request c.self.inside.fairings.now c.in-Some.call.place {fairing = was.fairing} was.found in
    let falls = c.in-Ok.ensures.falls within in
    rw c.in-Some.is (omega (arith, falls))

pub loop-next-preserved-in-Ok : goal.loop-next-preserved-in-Ok
loop-next-preserved-in-Ok g c =
    let begun = c.loop-next.invariant.1.0 in
    let asked = rw c.in-Over.is at (ask_turned (slot_request g.P.RequestCallback.calling) any_gate c.self.inside.fairings.now c.self.inside.turns begun c.loop-next.lent c.in-Some.call c.max-most.result c.in-Some-get.fairing.now
    (record { request = c.turn_request-turn.new.request; body = c.turn_request-turn.new.body; kept = c.turn_request-turn.new.ctx.kept }) c.turn_request-turn.new.task c.args.gate c.turn_request-turn.result c.max-most.ensures (any_gate_fits c.args.gate) c.loop-next.invariant.0 c.in-Some-get.ensures.found c.turn_request-turn.ensures.left c.turn_request-turn.ensures.pending
    (λ before making. (c.turn_request-turn.ensures.grows any_gate before making).kept.shutdown) (λ before fits making. c.turn_request-turn.ensures.gives any_gate before fits making) (rw c.in-Some.is at c.loop-next.invariant.1.1)) in (
      c.in-Ok.ensures.gate ∙ c.turn_request-turn.ensures.gate ∙ c.loop-next.invariant.0,
      (begun, c.in-Ok.ensures.gives any_gate begun asked),
      λ rule first fits start.
          let now = c.loop-next.invariant.2 rule first fits start in
          c.in-Ok.ensures.gives rule first (rw c.in-Over.is at (ask_turned (slot_request g.P.RequestCallback.calling) rule c.self.inside.fairings.now c.self.inside.turns first c.loop-next.lent c.in-Some.call c.max-most.result c.in-Some-get.fairing.now
          (record { request = c.turn_request-turn.new.request; body = c.turn_request-turn.new.body; kept = c.turn_request-turn.new.ctx.kept }) c.turn_request-turn.new.task c.args.gate c.turn_request-turn.result c.max-most.ensures fits c.loop-next.invariant.0 c.in-Some-get.ensures.found c.turn_request-turn.ensures.left c.turn_request-turn.ensures.pending
          (λ before making. (c.turn_request-turn.ensures.grows rule before making).kept.shutdown) (λ before fits making. c.turn_request-turn.ensures.gives rule before fits making) (rw c.in-Some.is at now))),
    )

pub loop-next-preserved : goal.loop-next-preserved
loop-next-preserved g c =
    let begun = c.loop-next.invariant.1.0 in
    let asked = rw c.in-Over.is at (ask_turned (slot_request g.P.RequestCallback.calling) any_gate c.self.inside.fairings.now c.self.inside.turns begun c.loop-next.lent c.in-Some.call c.max-most.result c.in-Some-get.fairing.now
    (record { request = c.turn_request-turn.new.request; body = c.turn_request-turn.new.body; kept = c.turn_request-turn.new.ctx.kept }) c.turn_request-turn.new.task c.args.gate c.turn_request-turn.result c.max-most.ensures (any_gate_fits c.args.gate) c.loop-next.invariant.0 c.in-Some-get.ensures.found c.turn_request-turn.ensures.left c.turn_request-turn.ensures.pending
    (λ before making. (c.turn_request-turn.ensures.grows any_gate before making).kept.shutdown) (λ before fits making. c.turn_request-turn.ensures.gives any_gate before fits making) (rw c.in-Some.is at c.loop-next.invariant.1.1)) in (
      c.in-Ok.ensures.gate ∙ c.turn_request-turn.ensures.gate ∙ c.loop-next.invariant.0,
      (begun, c.in-Ok.ensures.gives any_gate begun asked),
      λ rule first fits start.
          let now = c.loop-next.invariant.2 rule first fits start in
          c.in-Ok.ensures.gives rule first (rw c.in-Over.is at (ask_turned (slot_request g.P.RequestCallback.calling) rule c.self.inside.fairings.now c.self.inside.turns first c.loop-next.lent c.in-Some.call c.max-most.result c.in-Some-get.fairing.now
          (record { request = c.turn_request-turn.new.request; body = c.turn_request-turn.new.body; kept = c.turn_request-turn.new.ctx.kept }) c.turn_request-turn.new.task c.args.gate c.turn_request-turn.result c.max-most.ensures fits c.loop-next.invariant.0 c.in-Some-get.ensures.found c.turn_request-turn.ensures.left c.turn_request-turn.ensures.pending
          (λ before making. (c.turn_request-turn.ensures.grows rule before making).kept.shutdown) (λ before fits making. c.turn_request-turn.ensures.gives rule before fits making) (rw c.in-Some.is at now))),
    )

pub loop-next-init : goal.loop-next-init
unfolding InvariantFor
loop-next-init g c = (ap (λ x. x.gate) c.set_gate.ensures, (c.self.invariant.first, rw c.set_gate.ensures (record { calls = c.self.invariant.stands.calls })), λ rule first fits stands. stands)

pub turn_request-turn-requires : goal.turn_request-turn-requires
turn_request-turn-requires g c =
    let was = rw c.in-Some.is at c.loop-next.invariant.1.1 in
    record { underway = (any_gate, was.calls.before, ask_made (slot_request g.P.RequestCallback.calling) any_gate c.self.inside.fairings.now c.self.inside.turns c.loop-next.invariant.1.0 c.loop-next.lent c.in-Some.call c.max-most.result c.in-Some-get.fairing.now c.max-most.ensures c.in-Some-get.ensures.found was) }
