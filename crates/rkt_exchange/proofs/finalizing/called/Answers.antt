use Rattle.std.proofs.Common.{◌+◌, refl, subst}
use Rattle.rkt_fairing.specs.declared.callback.Callback.TheVariants.{Response}
use Rattle.rkt_fairing.specs.InSlot.{slot_response}
use Rattle.rkt_router.specs.Calling.{Starts}
use Rattle.rkt_routing.specs.MakingLaws.{some_turns}
use Rattle.rkt_exchange.proofs.Chaining.{begins_falls, begins_stand, called_next, found_within}
use Rattle.rkt_exchange.specs.Answers.{Leads, answered_at, answering}
use Rattle.rkt_exchange.specs.Chain.{Begins, Ends}
use Rattle.rkt_exchange.proofs.finalizing.called.Goals as goal

pub returns : goal.returns
returns g c = record {
  gate = refl;
  shutdown = refl;
  gives = λ rule first so.
      let chain = answering (slot_response g.Q.ResponseCallback.calling) rule c.args.fairings.now c.args.turns first.request in
      let whole = Leads (slot_response g.Q.ResponseCallback.calling) rule c.args.fairings.now c.args.turns first in
      let begins = subst (λ r. Begins Response c.args.fairings.now (c.args.place + 1) (λ fairing task. Starts (slot_response g.Q.ResponseCallback.calling) fairing r task) c.begin.result) so.request
      (subst (λ p. Begins Response c.args.fairings.now p (λ fairing task. Starts (slot_response g.Q.ResponseCallback.calling) fairing c.args.departure.now.live.request task) c.begin.result)
      (c.place_behind-next.ensures (found_within Response c.args.fairings.now c.args.place so.call.found)) c.begin.ensures.begins) in
      record {
        request = so.request;
        calls = begins_stand chain whole first.at.kept.shutdown Ends (answered_at c.args.departure.now) c.push.new.self (c.args.place + 1) c.begin.result (some_turns c.args.turns) begins
            (called_next chain whole first.at.kept.shutdown Ends (answered_at c.args.departure.now) c.args.departure.now.live.calls c.push.new.self c.recorded-call.result c.args.place c.args.reply c.in_default.not-Starved c.in_ok-push.ensures.ok
            (rw (← c.fairing_says.ensures) c.recorded-call.ensures) so.call);
      };
  falls = λ within. begins_falls Response c.args.fairings.now c.args.place c.begin.result _ within
      (subst (λ p. Begins Response c.args.fairings.now p (λ fairing task. Starts (slot_response g.Q.ResponseCallback.calling) fairing c.args.departure.now.live.request task) c.begin.result) (c.place_behind-next.ensures within) c.begin.ensures.begins);
}
