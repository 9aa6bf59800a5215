use Rattle.std.proofs.Common.{inl, ◌<◌, ◌∙◌, length, sym, arith}
use Rattle.std.proofs.lemmas.Bool.{eqb-false}
use Rattle.rkt_data.specs.CountedSource.{Polls}
use Rattle.rkt_data.proofs.CountedSources.{PollsTo-read}
use Rattle.rkt_message.proofs.content.poll_stream.Goals as goal

pub returns-then-is_empty-clause-by_gate : goal.returns-then-is_empty-clause-by_gate
returns-then-is_empty-clause-by_gate g c = inl Polls.none

pub returns-clause-by_gate : goal.returns-clause-by_gate
returns-clause-by_gate g c =
    let room : 0 < length c.args.buf.now = omega (arith, eqb-false (length c.args.buf.now) 0 (sym c.is_empty.ensures ∙ c.if-is_empty.false)) in
    PollsTo-read g.S.Source.polled c.args.gate (length c.args.buf.now) c.poll_read.result c.args.stream.now c.poll_read.new.self room (c.poll_read.ensures.polled room)
