use Rattle.std.proofs.Common.{◌<◌, ◌-◌, inr, length, take, drop, arith, rules, length-drop, length-take, length-append}
use Rattle.rkt_data.specs.CountedSource.{Polls}
use Rattle.rkt_data.proofs.Pulls.{Pulled-more}
use Rattle.rkt_data.proofs.counted_source.pull.Goals as goal

pub loop-n-preserved : goal.loop-n-preserved
loop-n-preserved g c =
    let a = rw c.in-Ready-Ok.field-0-is at c.in-Ready-Ok.ensures.answer in
    let read = rw c.in-Ready-Ok.field-0-is at c.in-Ready-Ok.ensures.polled in (
      Pulled-more c.in-Ready-Ok.k c.poll_read.new.buf _ c.loop-n.invariant.0 c.poll_read.ensures.kept a.1 (a.2 (simp (length-take, length-drop) (omega arith)))
          (omega (arith, a.0, c.poll_read.auto.buf)) (simp (length-append, length-take, length-drop) (omega (arith, a.0, c.poll_read.auto.buf))),
      (let room : 0 < length (take (length c.loop-n.room - c.loop-n.n) (drop c.loop-n.n c.loop-n.room)) = simp (length-take, length-drop) (omega arith) in Polls.more {n = c.in-Ready-Ok.k} c.loop-n.invariant.1 (omega arith) (_, room, read room)),
    )

pub loop-n-init : goal.loop-n-init
loop-n-init g c = (search rules, Polls.none)

pub returns-in-Ready-Ok-eq0-clause-by_gate : goal.returns-in-Ready-Ok-eq0-clause-by_gate
returns-in-Ready-Ok-eq0-clause-by_gate g c =
    let read = rw (c.in-Ready-Ok-eq0.field-0-is, c.in-Ready-Ok-eq0.field-0-0-test) at c.in-Ready-Ok-eq0.ensures.polled in
    let room : 0 < length (take (length c.loop-n.room - c.loop-n.n) (drop c.loop-n.n c.loop-n.room)) = simp (length-take, length-drop) (omega arith) in
    inr (c.loop-n.source, c.loop-n.invariant.1, (_, room, read room))

pub returns-in-Ready-Err-clause-by_gate : goal.returns-in-Ready-Err-clause-by_gate
returns-in-Ready-Err-clause-by_gate g c =
    let read = rw c.in-Ready-Err.field-0-is at c.in-Ready-Err.ensures.polled in
    let room : 0 < length (take (length c.loop-n.room - c.loop-n.n) (drop c.loop-n.n c.loop-n.room)) = simp (length-take, length-drop) (omega arith) in
    (c.loop-n.source, c.loop-n.invariant.1, (_, room, read room))

pub returns-in-Pending-clause-by_gate : goal.returns-in-Pending-clause-by_gate
returns-in-Pending-clause-by_gate g c =
    let room : 0 < length (take (length c.loop-n.room - c.loop-n.n) (drop c.loop-n.n c.loop-n.room)) = simp (length-take, length-drop) (omega arith) in
    (c.loop-n.source, c.loop-n.invariant.1, (_, room, c.in-Pending.ensures.polled room))
