use Rattle.rkt_router.specs.Callbacks.{RequestAt}
use Rattle.rkt_fairing.specs.InSlot.{slot_request}
use Rattle.rkt_router.specs.Calls.{any_gate}
use Rattle.rkt_routing.specs.BetweenLaws.{backs_none}
use Rattle.rkt_routing.specs.MakingLaws.{some_turns}
use Rattle.rkt_exchange.proofs.Chaining.{begins_stand}
use Rattle.rkt_exchange.specs.Asks.{Leads, InvariantFor, asking}
use Rattle.rkt_exchange.specs.Chain.{Ends}
use Rattle.rkt_exchange.proofs.preprocessing.RequestFairings.new.Goals as goal

pub invariant_of-result : goal.invariant_of-result
unfolding InvariantFor
invariant_of-result g c =
    let first : RequestAt _ _ _ = record { request = c.args.request; body = c.args.body; kept = c.args.ctx.kept } in record {
      first = first;
      stands = record {
        calls = begins_stand (asking (slot_request g.P.RequestCallback.calling) any_gate c.args.fairings.now c.args.turns) (Leads (slot_request g.P.RequestCallback.calling) any_gate c.args.fairings.now c.args.turns first) c.args.ctx.kept.shutdown Ends first c.new.result 0
            c.begin-next.result (some_turns c.args.turns) c.begin-next.ensures.begins (rw c.new.ensures (record { leads = λ rest at done. done; backs = backs_none c.args.ctx.kept.shutdown }));
      };
    }

pub returns-clause-stands : goal.returns-clause-stands
unfolding InvariantFor
returns-clause-stands g c = λ rule.
    let first : RequestAt _ _ _ = record { request = c.args.request; body = c.args.body; kept = c.args.ctx.kept } in
    record {
      calls = begins_stand (asking (slot_request g.P.RequestCallback.calling) rule c.args.fairings.now c.args.turns) (Leads (slot_request g.P.RequestCallback.calling) rule c.args.fairings.now c.args.turns first) c.args.ctx.kept.shutdown Ends first c.new.result 0
          c.begin-next.result (some_turns c.args.turns) c.begin-next.ensures.begins (rw c.new.ensures (record { leads = λ rest at done. done; backs = backs_none c.args.ctx.kept.shutdown }));
    }
