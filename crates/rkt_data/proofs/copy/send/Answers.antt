use Rattle.std.proofs.Common.{◌≡◌, ◌-◌, length, take, drop, arith, inl, inr, refl, length-drop, length-take, take-add, take_all}
use Rattle.rkt_source.specs.Sink.{Feeds}
use Rattle.rkt_data.proofs.Sends.{Gains-none, SinkKeeps-refl, SinkKeeps-trans, Gains-trans}
use Rattle.rkt_data.proofs.copy.send.Goals as goal

pub loop-n-init : goal.loop-n-init
loop-n-init g c = (SinkKeeps-refl (g.K.Sink.meaning c.args.sink.now), omega arith, Gains-none (g.K.Sink.meaning c.args.sink.now) (g.K.Sink.meaning c.args.sink.now) refl, Feeds.none)

pub loop-n-preserved : goal.loop-n-preserved
loop-n-preserved g c =
    let whole : take (length c.args.piece.now - c.loop-n.n) (drop c.loop-n.n c.args.piece.now) ≡ drop c.loop-n.n c.args.piece.now = take_all (length c.args.piece.now - c.loop-n.n) (drop c.loop-n.n c.args.piece.now) (omega (arith, length-drop c.loop-n.n c.args.piece.now)) in
    let a = rw (c.in-Ready-Ok.field-0-is, whole) at c.in-Ready-Ok.ensures.answer in
    let written = rw (c.in-Ready-Ok.field-0-is, whole) at c.in-Ready-Ok.ensures.written in (
      SinkKeeps-trans c.loop-n.invariant.0 c.poll_write.ensures.kept,
      omega (arith, a.0, length-drop c.loop-n.n c.args.piece.now, c.loop-n.invariant.1),
      rw (take-add c.loop-n.n c.in-Ready-Ok.k c.args.piece.now)
          (Gains-trans (g.K.Sink.meaning c.args.sink.now) (g.K.Sink.meaning c.loop-n.sink) (g.K.Sink.meaning c.poll_write.new.self) (take c.loop-n.n c.args.piece.now) (take c.in-Ready-Ok.k (drop c.loop-n.n c.args.piece.now)) c.loop-n.invariant.2 a.1),
      rw (take-add c.loop-n.n c.in-Ready-Ok.k c.args.piece.now) (Feeds.more {n = c.in-Ready-Ok.k} c.loop-n.invariant.3 (omega arith) written),
    )

pub returns-in-Ready-Ok-eq0-clause-feeds : goal.returns-in-Ready-Ok-eq0-clause-feeds
returns-in-Ready-Ok-eq0-clause-feeds g c =
    let written = rw (c.in-Ready-Ok-eq0.field-0-is, c.in-Ready-Ok-eq0.field-0-0-test) at c.in-Ready-Ok-eq0.ensures.written in
    (c.loop-n.sink, take (length c.args.piece.now - c.loop-n.n) (drop c.loop-n.n c.args.piece.now), simp (length-take, length-drop) (omega arith), c.loop-n.invariant.3, inr (refl, written))

pub returns-in-Ready-Err-clause-feeds : goal.returns-in-Ready-Err-clause-feeds
returns-in-Ready-Err-clause-feeds g c =
    let written = rw c.in-Ready-Err.field-0-is at c.in-Ready-Err.ensures.written in
    (c.loop-n.sink, take (length c.args.piece.now - c.loop-n.n) (drop c.loop-n.n c.args.piece.now), simp (length-take, length-drop) (omega arith), c.loop-n.invariant.3, inl written)

pub returns-in-Pending-clause-feeds : goal.returns-in-Pending-clause-feeds
returns-in-Pending-clause-feeds g c =
    (c.loop-n.sink, take (length c.args.piece.now - c.loop-n.n) (drop c.loop-n.n c.args.piece.now), simp (length-take, length-drop) (omega arith), c.loop-n.invariant.3, c.in-Pending.ensures.written)
