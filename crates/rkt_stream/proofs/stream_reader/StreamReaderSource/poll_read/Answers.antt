use Rattle.std.proofs.Common.{◌∙◌, length, sym, arith, refl}
use Rattle.std.proofs.lemmas.Bool.{eqb-true}
use Rattle.rkt_stream.proofs.stream_reader.StreamReaderSource.poll_read.Goals as goal

pub returns-then-is_empty-clause-polled : goal.returns-then-is_empty-clause-polled
returns-then-is_empty-clause-polled g c = λ room. absurd (omega (arith, room, eqb-true (length c.args.buf.now) 0 (sym c.is_empty.ensures ∙ c.if-is_empty.true)))

pub returns-in-Pending-clause-polled : goal.returns-in-Pending-clause-polled
returns-in-Pending-clause-polled g c = λ room. (c.fill.new.self, _, c.in-Pending.ensures.asked, (refl, refl))

pub returns-in-Ready-clause-polled : goal.returns-in-Ready-clause-polled
returns-in-Ready-clause-polled g c = λ room.
    let given = rw c.give.ensures.count at c.give.ensures.given in
    rw c.give.ensures.count (c.fill.new.self, _, c.in-Ready.ensures.asked, (given, refl))
