use Rattle.std.proofs.Common.{arith}
use Rattle.rkt_fairing.proofs.Chains.{counted_more, shuts_down_more}
use Rattle.rkt_fairing.proofs.shutting.shut_down.Goals as goal

pub loop-n-preserved : goal.loop-n-preserved
loop-n-preserved g c =
    let kept = c.loop-n.invariant in
    let items = c.push_reserved.ensures.items in
    let each = shuts_down_more g.P.ShutdownCallback.calling c.args.view.now c.args.fairings.now 0 c.loop-n.n c.loop-n.calls.items c.shut_at.result (omega (arith, kept.all)) kept.each c.shut_at.ensures in
    record {
      each = rw items each;
      all = counted_more c.loop-n.calls.items c.push_reserved.new.self.items c.shut_at.result c.loop-n.n items kept.all;
      room = omega (arith, kept.room, c.push_reserved.ensures.capacity);
    }
