use Rattle.std.proofs.Common.{◌≡◌, ◌<◌, length, arith, refl, Ok, Err}
use Rattle.rkt_base.specs.declared.poll.Poll.TheVariants.{Ready, Pending}
use Rattle.rkt_stream.specs.Flat.{Passed}
use Rattle.rkt_stream.proofs.Flats.{Moves-ended, Moves-given, Moves-start, Advances-gives, ReadsItem-read}
use Rattle.rkt_stream.proofs.stream.reader_stream.read_on.Goals as goal

pub returns-in-Ready-Ok-clause-answer : goal.returns-in-Ready-Ok-clause-answer
returns-in-Ready-Ok-clause-answer g c =
    let a = rw c.in-Ready-Ok.field-0-is at c.in-Ready-Ok.ensures.answer in
    let m = rw c.in-Some.is at c.loop-item.invariant.moves in
    let same : length c.loop-item.buf ≡ length c.args.buf.now = omega (arith, c.loop-item.auto.buf) in
    let gives = Advances-gives g.S.Stream.flow g.S.Item.Source.meaning g.S.Stream.may_give c.loop-item.stream c.in-Some.source c.poll_read.new.self c.in-Ready-Ok.n c.loop-item.buf c.poll_read.new.buf m c.in-Ready-Ok.ensures.kept a c.in-Ready-Ok.n-test.1 c.poll_read.auto.buf (omega (arith, same, c.requires.room)) in
    (omega (arith, gives.0, same), gives.1)

pub loop-item-init : goal.loop-item-init
loop-item-init g c = record {
  moves = Moves-start g.S.Stream.flow g.S.Item.Source.meaning g.S.Stream.may_give c.args.gate.tripped (record { stream = c.args.stream.now; item = c.args.item.now }) c.requires.fresh;
  passed = Passed.none;
}

pub loop-item-preserved-in-Ready-Ok-eq0 : goal.loop-item-preserved-in-Ready-Ok-eq0
loop-item-preserved-in-Ready-Ok-eq0 g c =
    let h = c.in-Ready-Ok-eq0 in
    let m = rw c.in-Some.is at c.loop-item.invariant.moves in
    let a = rw h.field-0-is at h.ensures.answer in
    let room : 0 < length c.loop-item.buf = omega (arith, c.loop-item.auto.buf, c.requires.room) in
    let passed = rw c.in-Some.is at c.loop-item.invariant.passed in
    let read = rw (h.field-0-is, h.field-0-0-test, c.loop-item.auto.buf) at h.ensures.polled in
    record {
      moves = Moves-ended g.S.Stream.flow g.S.Item.Source.meaning g.S.Stream.may_give c.loop-item.stream c.in-Some.source c.poll_read.new.self h.field-0-0 c.loop-item.buf c.poll_read.new.buf m a h.field-0-0-test room;
      passed = Passed.ended passed (read c.requires.room);
    }

pub loop-item-preserved : goal.loop-item-preserved
loop-item-preserved g c =
    let a = rw c.in-Ready-Some.field-0-is at c.in-Ready-Some.ensures.flows in
    let k = rw c.in-Ready-Some.field-0-is at c.in-Ready-Some.ensures.gives in
    let m = rw c.in-None.is at c.loop-item.invariant.moves in
    let passed = rw c.in-None.is at c.loop-item.invariant.passed in
    let given = rw c.in-Ready-Some.field-0-is at c.in-Ready-Some.ensures.polled in
    record { moves = Moves-given g.S.Stream.flow g.S.Item.Source.meaning g.S.Stream.may_give c.loop-item.stream c.poll_next.new.self c.in-Ready-Some.next m a k; passed = Passed.given passed given }

pub returns-in-Ready-Ok-clause-item : goal.returns-in-Ready-Ok-clause-item
returns-in-Ready-Ok-clause-item g c =
    let m = rw c.in-Some.is at c.loop-item.invariant.moves in
    let read = rw (c.in-Ready-Ok.field-0-is, c.loop-item.auto.buf) at c.in-Ready-Ok.ensures.polled in
    ReadsItem-read g.S.Item.Source.polled g.S.Stream.may_give c.args.gate (length c.args.buf.now) (Ready (Ok c.in-Ready-Ok.n)) (record { stream = c.args.stream.now; item = c.args.item.now }) c.in-Some.source c.poll_read.new.self (m.origin c.in-Some.source refl) (read c.requires.room)

pub returns-in-Ready-Err-clause-item : goal.returns-in-Ready-Err-clause-item
returns-in-Ready-Err-clause-item g c =
    let m = rw c.in-Some.is at c.loop-item.invariant.moves in
    let read = rw (c.in-Ready-Err.field-0-is, c.loop-item.auto.buf) at c.in-Ready-Err.ensures.polled in
    ReadsItem-read g.S.Item.Source.polled g.S.Stream.may_give c.args.gate (length c.args.buf.now) (Ready (Err c.in-Ready-Err.e)) (record { stream = c.args.stream.now; item = c.args.item.now }) c.in-Some.source c.poll_read.new.self (m.origin c.in-Some.source refl) (read c.requires.room)

pub returns-in-Pending-clause-item : goal.returns-in-Pending-clause-item
returns-in-Pending-clause-item g c =
    let m = rw c.in-Some.is at c.loop-item.invariant.moves in
    let read = rw c.loop-item.auto.buf at c.in-Pending.ensures.polled in
    ReadsItem-read g.S.Item.Source.polled g.S.Stream.may_give c.args.gate (length c.args.buf.now) Pending (record { stream = c.args.stream.now; item = c.args.item.now }) c.in-Some.source c.poll_read.new.self (m.origin c.in-Some.source refl) (read c.requires.room)

pub returns-in-Ready-Err-clause-refuses : goal.returns-in-Ready-Err-clause-refuses
returns-in-Ready-Err-clause-refuses g c =
    let read = rw (c.in-Ready-Err.field-0-is, c.loop-item.auto.buf) at c.in-Ready-Err.ensures.polled in
    let a = rw c.in-Ready-Err.field-0-is at c.in-Ready-Err.ensures.answer in
    (c.in-Some.source, c.poll_read.new.self, refl, read c.requires.room, a.1)

pub returns-in-Ready-Ok-clause-in_turn : goal.returns-in-Ready-Ok-clause-in_turn
returns-in-Ready-Ok-clause-in_turn g c =
    let passed = rw c.in-Some.is at c.loop-item.invariant.passed in
    let read = rw (c.in-Ready-Ok.field-0-is, c.loop-item.auto.buf) at c.in-Ready-Ok.ensures.polled in
    (_, passed, (c.poll_read.new.self, refl, read c.requires.room, λ e. let none : c.in-Ready-Ok.n ≡ 0 = cc in c.in-Ready-Ok.n-test.1 none))

pub returns-in-Ready-Err-clause-in_turn : goal.returns-in-Ready-Err-clause-in_turn
returns-in-Ready-Err-clause-in_turn g c =
    let passed = rw c.in-Some.is at c.loop-item.invariant.passed in
    let read = rw (c.in-Ready-Err.field-0-is, c.loop-item.auto.buf) at c.in-Ready-Err.ensures.polled in
    (_, passed, (c.poll_read.new.self, refl, read c.requires.room, λ e. absurd (cc)))

pub returns-in-Pending-clause-in_turn : goal.returns-in-Pending-clause-in_turn
returns-in-Pending-clause-in_turn g c =
    let passed = rw c.in-Some.is at c.loop-item.invariant.passed in
    let read = rw c.loop-item.auto.buf at c.in-Pending.ensures.polled in
    (_, passed, (c.poll_read.new.self, refl, read c.requires.room, λ e. absurd (cc)))

pub returns-in-Ready-None-clause-in_turn : goal.returns-in-Ready-None-clause-in_turn
returns-in-Ready-None-clause-in_turn g c =
    let passed = rw c.in-None.is at c.loop-item.invariant.passed in
    let none = rw c.in-Ready-None.field-0-is at c.in-Ready-None.ensures.polled in
    rw c.in-None.is (_, passed, (c.poll_next.new.self, refl, (refl, none)))

pub returns-in-Pending-poll_next-clause-in_turn : goal.returns-in-Pending-poll_next-clause-in_turn
returns-in-Pending-poll_next-clause-in_turn g c =
    let passed = rw c.in-None.is at c.loop-item.invariant.passed in
    rw c.in-None.is (_, passed, (c.poll_next.new.self, refl, c.in-Pending-poll_next.ensures.polled))
