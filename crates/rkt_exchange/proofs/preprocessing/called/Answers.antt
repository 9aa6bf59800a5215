use Rattle.std.proofs.Common.{◌+◌, refl, subst}
use Rattle.rkt_fairing.specs.declared.callback.Callback.TheVariants.{Request}
use Rattle.rkt_fairing.specs.InSlot.{slot_request}
use Rattle.rkt_router.specs.Calling.{Starts}
use Rattle.rkt_routing.specs.MakingLaws.{some_turns}
use Rattle.rkt_exchange.proofs.Chaining.{begins_falls, begins_stand, called_next, found_within}
use Rattle.rkt_exchange.specs.Asks.{Leads, asked_at, asking}
use Rattle.rkt_exchange.specs.Chain.{Begins, Ends}
use Rattle.rkt_exchange.proofs.preprocessing.called.Goals as goal

pub returns : goal.returns
returns g c = record {
  gate = refl;
  shutdown = refl;
  gives = λ rule first so.
      let chain = asking (slot_request g.P.RequestCallback.calling) rule c.args.fairings.now c.args.turns in
      let whole = Leads (slot_request g.P.RequestCallback.calling) rule c.args.fairings.now c.args.turns first in
      let begins = subst (λ p. Begins Request c.args.fairings.now p (λ fairing task. Starts (slot_request g.P.RequestCallback.calling) fairing tt task) c.begin.result)
      (c.place_behind-next.ensures (found_within Request c.args.fairings.now c.args.place so.found)) c.begin.ensures.begins in
      record {
        calls = begins_stand chain whole first.kept.shutdown Ends (asked_at c.args.arrival.now) c.push.new.self (c.args.place + 1) c.begin.result (some_turns c.args.turns) begins
            (called_next chain whole first.kept.shutdown Ends (asked_at c.args.arrival.now) c.args.arrival.now.live.calls c.push.new.self c.recorded-call.result c.args.place c.args.reply c.in_default.not-Starved c.in_ok-push.ensures.ok
            (rw (← c.fairing_says.ensures) c.recorded-call.ensures) so);
      };
  falls = λ within. begins_falls Request c.args.fairings.now c.args.place c.begin.result _ within
      (subst (λ p. Begins Request c.args.fairings.now p (λ fairing task. Starts (slot_request g.P.RequestCallback.calling) fairing tt task) c.begin.result) (c.place_behind-next.ensures within) c.begin.ensures.begins);
}
