use Rattle.std.proofs.Common.{arith}
use Rattle.rkt_fairing.specs.Lifts.{Lifting}
use Rattle.rkt_fairing.proofs.Chains.{counted_more, lift_places, lifts_more}
use Rattle.rkt_fairing.proofs.lifting.lift_all.Goals as goal

pub loop-n-preserved : goal.loop-n-preserved
loop-n-preserved g c =
    let kept = c.loop-n.invariant in
    let items = c.push_reserved.ensures.items in
    let before : Lifting _ = record { fairings = c.loop-n.fairings; shutdown = c.loop-n.shutdown } in
    let after : Lifting _ = record { fairings = c.lift_at.new.fairings; shutdown = c.lift_at.new.shutdown } in
    let chain = lifts_more g.P.LiftoffCallback.calling c.args.view.now 0 c.loop-n.n (record { fairings = c.args.fairings.now; shutdown = c.args.shutdown.now }) before after c.loop-n.calls.items c.lift_at.result (omega (arith, kept.all)) kept.chain c.lift_at.ensures in
    record {
      chain = rw items chain;
      all = counted_more c.loop-n.calls.items c.push_reserved.new.self.items c.lift_at.result c.loop-n.n items kept.all;
      places = lift_places g.P.LiftoffCallback.calling c.args.view.now c.loop-n.n before after c.lift_at.result c.args.fairings.now.places c.lift_at.ensures kept.places;
      room = omega (arith, kept.room, c.push_reserved.ensures.capacity);
    }
