use Rattle.std.proofs.Common.{Ok, Err, arith, length-drop, length-take, length-append}
use Rattle.rkt_base.specs.declared.poll.Poll.TheVariants.{Ready, Pending}
use Rattle.rkt_data.proofs.Drains.{Draws-start, Draws-read, Draws-nothing}
use Rattle.rkt_data.proofs.drain.pour.Goals as goal

pub loop-n-init : goal.loop-n-init
loop-n-init g c = (Draws-start g.S.Source.meaning g.S.Source.polled c.args.gate c.args.pipe.now _ c.requires.not_probed c.requires.bound, c.requires.within)

pub loop-n-preserved : goal.loop-n-preserved
loop-n-preserved g c =
    let a = rw c.in-Ready-Ok.field-0-is at c.in-Ready-Ok.ensures.answer in
    let asks = rw c.in-Ready-Ok.field-0-is at c.in-Ready-Ok.ensures.by_gate in (
      Draws-read _ c.loop-n.n c.in-Ready-Ok.k c.loop-n.room c.read.new.buf _ c.loop-n.invariant.0 c.loop-n.invariant.1 (omega (arith, a.0, c.read.auto.buf)) (omega arith) c.read.ensures.follows asks c.read.ensures.bound c.read.ensures.probed a.1 (λ b t. (a.2 b t).0),
      simp (length-append, length-take, length-drop) (omega (arith, a.0, c.read.auto.buf)),
    )

pub returns-in-Ready-Ok-eq0-clause-draws : goal.returns-in-Ready-Ok-eq0-clause-draws
returns-in-Ready-Ok-eq0-clause-draws g c =
    let a = rw c.in-Ready-Ok-eq0.field-0-is at c.in-Ready-Ok-eq0.ensures.answer in
    let asks = rw c.in-Ready-Ok-eq0.field-0-is at c.in-Ready-Ok-eq0.ensures.by_gate in
    Draws-nothing (Ready (Ok c.in-Ready-Ok-eq0.field-0-0)) _ c.loop-n.n c.loop-n.room c.read.new.buf _ c.loop-n.invariant.0 c.loop-n.invariant.1 c.read.ensures.follows asks c.read.ensures.bound c.read.ensures.probed (omega (arith, a.1, c.in-Ready-Ok-eq0.field-0-0-is))

pub returns-in-Ready-Err-clause-draws : goal.returns-in-Ready-Err-clause-draws
returns-in-Ready-Err-clause-draws g c =
    let a = rw c.in-Ready-Err.field-0-is at c.in-Ready-Err.ensures.answer in
    let asks = rw c.in-Ready-Err.field-0-is at c.in-Ready-Err.ensures.by_gate in
    Draws-nothing (Ready (Err c.in-Ready-Err.e)) _ c.loop-n.n c.loop-n.room c.read.new.buf _ c.loop-n.invariant.0 c.loop-n.invariant.1 c.read.ensures.follows asks c.read.ensures.bound c.read.ensures.probed a.0

pub returns-in-Pending-clause-draws : goal.returns-in-Pending-clause-draws
returns-in-Pending-clause-draws g c =
    Draws-nothing Pending _ c.loop-n.n c.loop-n.room c.read.new.buf _ c.loop-n.invariant.0 c.loop-n.invariant.1 c.read.ensures.follows c.in-Pending.ensures.by_gate c.read.ensures.bound c.read.ensures.probed c.in-Pending.ensures.answer.0
