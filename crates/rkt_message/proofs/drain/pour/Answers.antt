use Rattle.std.proofs.Common.{◌≡◌, ◌<◌, ◌-◌, ◌∙◌, length, take, drop, sym, subst, arith, length-drop, length-take, length-append}
use Rattle.rkt_message.specs.Reading.{Takes}
use Rattle.rkt_message.proofs.Readings.{ByGate-caused, ByGate-gave, BytesErr-after, BytesErr-read, Draws-nothing, Draws-read, Draws-start, StreamWaits-after, left_same}
use Rattle.rkt_message.proofs.drain.pour.Goals as goal

pub loop-n-init : goal.loop-n-init
loop-n-init g c = (Draws-start g.S.Source.meaning g.S.Source.polled c.args.gate c.args.body.now _, c.requires.within)

pub loop-n-preserved : goal.loop-n-preserved
loop-n-preserved g c =
    let a = rw c.in-Ready-Ok.field-0-is at c.in-Ready-Ok.ensures.answer in
    let source = rw c.in-Ready-Ok.field-0-is at c.in-Ready-Ok.ensures.source in
    let room : 0 < length (take (length c.loop-n.room - c.loop-n.n) (drop c.loop-n.n c.loop-n.room)) = simp (length-take, length-drop) (omega arith) in
    let asks = ByGate-gave g.S.Source.meaning g.S.Source.polled c.args.gate c.in-Ready-Ok.k c.loop-n.body.content c.poll_read.new.self.content _ _ (omega arith) room source in (
      Draws-read c.loop-n.n c.in-Ready-Ok.k c.loop-n.room c.poll_read.new.buf _ c.loop-n.invariant.0 c.loop-n.invariant.1 (omega (arith, a.0, c.poll_read.auto.buf)) c.poll_read.ensures.follows c.poll_read.ensures.preset asks a.1 (λ w t. (a.2 w t).0) a.3,
      simp (length-append, length-take, length-drop) (omega (arith, a.0, c.poll_read.auto.buf)),
    )

pub returns-in-Ready-Ok-eq0-clause-draws : goal.returns-in-Ready-Ok-eq0-clause-draws
returns-in-Ready-Ok-eq0-clause-draws g c =
    let a = rw c.in-Ready-Ok-eq0.field-0-is at c.in-Ready-Ok-eq0.ensures.answer in
    let asks = rw c.in-Ready-Ok-eq0.field-0-is at c.in-Ready-Ok-eq0.ensures.by_gate in
    let none : c.in-Ready-Ok-eq0.field-0-0 ≡ 0 = omega arith in
    Draws-nothing c.loop-n.n c.loop-n.room c.poll_read.new.buf _ c.loop-n.invariant.0 c.loop-n.invariant.1 c.poll_read.ensures.follows c.poll_read.ensures.preset asks (left_same _ _ _ none a.1) (subst (Takes g.S.Source.meaning c.loop-n.body.content c.poll_read.new.self.content) none a.3)

pub returns-in-Ready-Ok-eq0-clause-stops : goal.returns-in-Ready-Ok-eq0-clause-stops
returns-in-Ready-Ok-eq0-clause-stops g c =
    let a = rw c.in-Ready-Ok-eq0.field-0-is at c.in-Ready-Ok-eq0.ensures.answer in
    let none : c.in-Ready-Ok-eq0.field-0-0 ≡ 0 = omega arith in
    λ w t. (a.2 w (sym (left_same _ _ _ none a.1) ∙ t)).1 (simp (length-take, length-drop) (omega arith)) none

pub returns-in-Ready-Err-clause-draws : goal.returns-in-Ready-Err-clause-draws
returns-in-Ready-Err-clause-draws g c =
    let a = rw c.in-Ready-Err.field-0-is at c.in-Ready-Err.ensures.answer in
    let asks = rw c.in-Ready-Err.field-0-is at c.in-Ready-Err.ensures.by_gate in
    Draws-nothing c.loop-n.n c.loop-n.room c.poll_read.new.buf _ c.loop-n.invariant.0 c.loop-n.invariant.1 c.poll_read.ensures.follows c.poll_read.ensures.preset (ByGate-caused g.S.Source.polled c.args.gate c.in-Ready-Err.e c.from.result _ _ c.from.ensures asks) a.1 a.2

pub returns-in-Ready-Err-clause-stops : goal.returns-in-Ready-Err-clause-stops
returns-in-Ready-Err-clause-stops g c =
    let a = rw c.in-Ready-Err.field-0-is at c.in-Ready-Err.ensures.answer in
    rw c.from.ensures
    (BytesErr-after g.S.Source.meaning c.args.gate.tripped _ c.args.body.now.content c.loop-n.body.content c.poll_read.new.self.content c.loop-n.invariant.0.follows.content
    (BytesErr-read g.S.Source.meaning c.in-Ready-Err.e c.loop-n.body.content c.poll_read.new.self.content a.0))

pub returns-in-Pending-clause-draws : goal.returns-in-Pending-clause-draws
returns-in-Pending-clause-draws g c =
    Draws-nothing c.loop-n.n c.loop-n.room c.poll_read.new.buf _ c.loop-n.invariant.0 c.loop-n.invariant.1 c.poll_read.ensures.follows c.poll_read.ensures.preset c.in-Pending.ensures.by_gate c.in-Pending.ensures.answer.1 c.in-Pending.ensures.answer.2

pub returns-in-Pending-clause-stops : goal.returns-in-Pending-clause-stops
returns-in-Pending-clause-stops g c =
    StreamWaits-after g.S.Source.meaning c.args.gate.tripped c.args.body.now.content c.loop-n.body.content c.poll_read.new.self.content c.loop-n.invariant.0.follows.content c.in-Pending.ensures.answer.0
