use Rattle.std.proofs.Common.{◌≡◌, ◌<◌, ◌+◌, ◌≤◌, ◌-◌, ◌∙◌, ℕ, List, take, drop, length, arith, take-add, inl, inr, refl}
use Rattle.std.proofs.lemmas.Grind.{common_steps}
use Rattle.rkt_base.specs.Counts.{Rose}
use Rattle.rkt_script.specs.Streams.{WritesOn}
use Rattle.rkt_script.proofs.StreamLemmas.{gains_more, gains_none}
use Rattle.rkt_script.proofs.stream.write_all.Goals as goal

rest_of : (bytes : List ℕ) (at : ℕ) → take (length bytes - at) (drop at bytes) ≡ drop at bytes
rest_of bytes at = grind (arith, common_steps)

whole_of : (bytes : List ℕ) (at : ℕ) → at ≡ length bytes → take at bytes ≡ bytes
whole_of bytes at is = grind (arith, common_steps, is)

some_left : (bytes : List ℕ) (at : ℕ) → at ≤ length bytes → ¬ (at ≡ length bytes) → 0 < length (drop at bytes)
some_left bytes at within other = grind (arith, common_steps, within, other)

rose_before : (a b c : ℕ) → a ≤ b → Rose b c → Rose a c
rose_before a b c more rose = omega (arith, more, rose)

pub loop-preserved-in-Ready-Ok : goal.loop-preserved-in-Ready-Ok
loop-preserved-in-Ready-Ok g c =
    let answer = rw c.in-Ready-Ok.field-0-is at c.in-Ready-Ok.ensures.answer in
    let bytes = c.args.bytes.now in
    let rest = rest_of bytes c.loop.at in
    let within : c.loop.at + c.in-Ready-Ok.count ≤ length bytes = grind (arith, common_steps, answer.0) in (
      tt,
      tt,
      within,
      omega (arith, c.loop.invariant.3, c.in-Ready-Ok.ensures.kept.faults),
      gains_more (g.K.Sink.meaning c.args.sink.now) (g.K.Sink.meaning c.loop.sink) (g.K.Sink.meaning c.poll_write.new.self) bytes c.loop.at c.in-Ready-Ok.count c.loop.invariant.4 (rw rest at answer.1),
      rw (take-add c.loop.at c.in-Ready-Ok.count bytes) (WritesOn.more {n = c.in-Ready-Ok.count} c.loop.invariant.5 (omega arith) (rw (c.in-Ready-Ok.field-0-is, rest) at c.in-Ready-Ok.ensures.written)),
    )

pub loop-preserved : goal.loop-preserved
loop-preserved g c =
    (tt, tt, c.loop.invariant.2, omega (arith, c.loop.invariant.3, c.in-Pending.ensures.kept.faults), c.in-Pending.ensures.answer.0 ∙ c.loop.invariant.4, WritesOn.waits c.loop.invariant.5 c.in-Pending.ensures.written)

pub loop-init : goal.loop-init
loop-init g c = (tt, tt, omega arith, omega arith, gains_none (g.K.Sink.meaning c.args.sink.now).held, WritesOn.none)

pub returns-then-at-bytes-clause-written : goal.returns-then-at-bytes-clause-written
returns-then-at-bytes-clause-written g c = rw (whole_of c.args.bytes.now c.loop.at c.if-at-bytes.true) at c.loop.invariant.5

pub returns-in-Ready-Ok-eq0-clause-written : goal.returns-in-Ready-Ok-eq0-clause-written
returns-in-Ready-Ok-eq0-clause-written g c =
    let rest = rest_of c.args.bytes.now c.loop.at in (
      c.loop.at,
      c.loop.sink,
      omega (arith, c.loop.invariant.2, c.if-at-bytes.false),
      c.loop.invariant.5,
      inr (refl, rw (c.in-Ready-Ok-eq0.field-0-is, c.in-Ready-Ok-eq0.field-0-0-test, rest) at c.in-Ready-Ok-eq0.ensures.written),
    )

pub returns-in-Ready-Ok-eq0-clause-front : goal.returns-in-Ready-Ok-eq0-clause-front
returns-in-Ready-Ok-eq0-clause-front g c =
    let answer = rw c.in-Ready-Ok-eq0.field-0-is at c.in-Ready-Ok-eq0.ensures.answer in
    let rest = rest_of c.args.bytes.now c.loop.at in (
      c.loop.at + c.in-Ready-Ok-eq0.field-0-0,
      gains_more (g.K.Sink.meaning c.args.sink.now) (g.K.Sink.meaning c.loop.sink) (g.K.Sink.meaning c.poll_write.new.self) c.args.bytes.now c.loop.at c.in-Ready-Ok-eq0.field-0-0 c.loop.invariant.4 (rw rest at answer.1),
    )

pub returns-in-Ready-Ok-eq0-clause-cause : goal.returns-in-Ready-Ok-eq0-clause-cause
returns-in-Ready-Ok-eq0-clause-cause g c = λ _.
    let answer = rw (c.in-Ready-Ok-eq0.field-0-is, rest_of c.args.bytes.now c.loop.at) at c.in-Ready-Ok-eq0.ensures.answer in
    rose_before (g.K.Sink.meaning c.args.sink.now).faults (g.K.Sink.meaning c.loop.sink).faults (g.K.Sink.meaning c.poll_write.new.self).faults c.loop.invariant.3
    (answer.2 c.in-Ready-Ok-eq0.field-0-0-test (some_left c.args.bytes.now c.loop.at c.loop.invariant.2 c.if-at-bytes.false)).0

pub returns-in-Ready-Err-SinkFault-clause-written : goal.returns-in-Ready-Err-SinkFault-clause-written
returns-in-Ready-Err-SinkFault-clause-written g c =
    let rest = rest_of c.args.bytes.now c.loop.at in (
      c.loop.at,
      c.loop.sink,
      omega (arith, c.loop.invariant.2, c.if-at-bytes.false),
      c.loop.invariant.5,
      inl (rw (c.in-Ready-Err-SinkFault.field-0-is, c.in-Ready-Err-SinkFault.field-0-0-is, rest) at c.in-Ready-Err-SinkFault.ensures.written),
    )

pub returns-in-Ready-Err-SinkFault-clause-front : goal.returns-in-Ready-Err-SinkFault-clause-front
returns-in-Ready-Err-SinkFault-clause-front g c =
    let answer = rw c.in-Ready-Err-SinkFault.field-0-is at c.in-Ready-Err-SinkFault.ensures.answer in (c.loop.at, answer.0 ∙ c.loop.invariant.4)

pub returns-in-Ready-Err-SinkFault-clause-cause : goal.returns-in-Ready-Err-SinkFault-clause-cause
returns-in-Ready-Err-SinkFault-clause-cause g c = λ _.
    let answer = rw (c.in-Ready-Err-SinkFault.field-0-is, c.in-Ready-Err-SinkFault.field-0-0-is) at c.in-Ready-Err-SinkFault.ensures.answer in
    rose_before (g.K.Sink.meaning c.args.sink.now).faults (g.K.Sink.meaning c.loop.sink).faults (g.K.Sink.meaning c.poll_write.new.self).faults c.loop.invariant.3 answer.1.0

pub returns-in-Ready-Err-NoMemory-clause-written : goal.returns-in-Ready-Err-NoMemory-clause-written
returns-in-Ready-Err-NoMemory-clause-written g c =
    let rest = rest_of c.args.bytes.now c.loop.at in (
      c.loop.at,
      c.loop.sink,
      omega (arith, c.loop.invariant.2, c.if-at-bytes.false),
      c.loop.invariant.5,
      inl (rw (c.in-Ready-Err-NoMemory.field-0-is, c.in-Ready-Err-NoMemory.field-0-0-is, rest) at c.in-Ready-Err-NoMemory.ensures.written),
    )

pub returns-in-Ready-Err-NoMemory-clause-front : goal.returns-in-Ready-Err-NoMemory-clause-front
returns-in-Ready-Err-NoMemory-clause-front g c =
    let answer = rw c.in-Ready-Err-NoMemory.field-0-is at c.in-Ready-Err-NoMemory.ensures.answer in (c.loop.at, answer.0 ∙ c.loop.invariant.4)
