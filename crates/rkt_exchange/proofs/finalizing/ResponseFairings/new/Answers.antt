use Rattle.std.proofs.Common.{refl}
use Rattle.rkt_fairing.specs.InSlot.{slot_response}
use Rattle.rkt_router.specs.Calls.{any_gate}
use Rattle.rkt_routing.specs.BetweenLaws.{backs_none}
use Rattle.rkt_routing.specs.MakingLaws.{some_turns}
use Rattle.rkt_exchange.proofs.Chaining.{begins_stand}
use Rattle.rkt_exchange.specs.Answers.{Leads, Outgoing, InvariantFor, answering}
use Rattle.rkt_exchange.specs.Chain.{Ends}
use Rattle.rkt_exchange.proofs.finalizing.ResponseFairings.new.Goals as goal

pub invariant_of-result : goal.invariant_of-result
unfolding InvariantFor
invariant_of-result g c =
    let first : Outgoing _ _ _ = record { request = c.args.request; at = record { response = c.args.response; kept = c.args.ctx.kept } } in record {
      first = first;
      stands = record {
        request = refl;
        calls = begins_stand (answering (slot_response g.Q.ResponseCallback.calling) any_gate c.args.fairings.now c.args.turns c.args.request) (Leads (slot_response g.Q.ResponseCallback.calling) any_gate c.args.fairings.now c.args.turns first) c.args.ctx.kept.shutdown Ends first.at
            c.new.result 0 c.begin-next.result (some_turns c.args.turns) c.begin-next.ensures.begins (rw c.new.ensures (record { leads = λ rest at done. done; backs = backs_none c.args.ctx.kept.shutdown }));
      };
    }

pub returns-clause-stands : goal.returns-clause-stands
unfolding InvariantFor
returns-clause-stands g c = λ rule.
    let first : Outgoing _ _ _ = record { request = c.args.request; at = record { response = c.args.response; kept = c.args.ctx.kept } } in
    record {
      request = refl;
      calls = begins_stand (answering (slot_response g.Q.ResponseCallback.calling) rule c.args.fairings.now c.args.turns c.args.request) (Leads (slot_response g.Q.ResponseCallback.calling) rule c.args.fairings.now c.args.turns first) c.args.ctx.kept.shutdown Ends first.at
          c.new.result 0 c.begin-next.result (some_turns c.args.turns) c.begin-next.ensures.begins (rw c.new.ensures (record { leads = λ rest at done. done; backs = backs_none c.args.ctx.kept.shutdown }));
    }
