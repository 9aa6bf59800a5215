use Rattle.std.proofs.Common.{◌∙◌, length, sym, arith, inl, inr, refl, le_trans, rules}
use Rattle.std.proofs.lemmas.Bool.{eqb-true}
use Rattle.rkt_stream.proofs.Flats.{refused_by, split_more}
use Rattle.rkt_stream.proofs.stream.reader_stream.ReaderStreamSource.poll_read.Goals as goal

pub returns-then-is_empty-clause-polled : goal.returns-then-is_empty-clause-polled
returns-then-is_empty-clause-polled g c = λ room. absurd (omega (arith, room, eqb-true (length c.args.buf.now) 0 (sym c.is_empty.ensures ∙ c.if-is_empty.true)))

pub invariant_of-self-in-Ready-Ok : goal.invariant_of-self-in-Ready-Ok
invariant_of-self-in-Ready-Ok g c =
    let a = rw c.in-Ready-Ok.field-0-is at c.in-Ready-Ok.ensures.answer in
    let before = c.self.invariant in
    rw c.add.ensures record {
      bytes = λ w e.
          let b = before.bytes w e in
          let n = a.1 b.1 b.2 in
          split_more w b.0 b.1 c.self.inside.taken c.in-Ready-Ok.n _ b.3 b.4 n.1 n.2;
      waits = le_trans c.in-Ready-Ok.ensures.goes.waits before.waits;
      fresh = c.in-Ready-Ok.ensures.goes.fresh;
      warned = search rules;
    }

pub returns-in-Pending-clause-polled : goal.returns-in-Pending-clause-polled
returns-in-Pending-clause-polled g c = λ room.
    let read = c.in-Pending.ensures in
    rw (← c.self.view_is) (record { in_turn = read.in_turn; item = read.item; refuses = read.refuses; faults = inl refl; refused = inl refl })

pub returns-in-Ready-Ok-clause-polled : goal.returns-in-Ready-Ok-clause-polled
returns-in-Ready-Ok-clause-polled g c = λ room.
    let in_turn = rw c.in-Ready-Ok.field-0-is at c.in-Ready-Ok.ensures.in_turn in
    let item = rw c.in-Ready-Ok.field-0-is at c.in-Ready-Ok.ensures.item in
    let refuses = rw c.in-Ready-Ok.field-0-is at c.in-Ready-Ok.ensures.refuses in
    rw (← c.self.view_is) (record { in_turn = in_turn; item = item; refuses = refuses; faults = inl refl; refused = inl refl })

pub returns-in-Ready-Err-SourceFault-clause-polled : goal.returns-in-Ready-Err-SourceFault-clause-polled
returns-in-Ready-Err-SourceFault-clause-polled g c = λ room.
    let h = c.in-Ready-Err-SourceFault in
    let in_turn = rw (h.field-0-is, h.field-0-0-is) at h.ensures.in_turn in
    let item = rw (h.field-0-is, h.field-0-0-is) at h.ensures.item in
    let refuses = rw (h.field-0-is, h.field-0-0-is) at h.ensures.refuses in
    rw (← c.self.view_is)
    (record { in_turn = in_turn; item = item; refuses = refuses; faults = inr (c.add-in-Ready-Err-SourceFault.ensures, refuses); refused = inl refl })

pub returns-in-Ready-Err-clause-polled : goal.returns-in-Ready-Err-clause-polled
returns-in-Ready-Err-clause-polled g c = λ room.
    let in_turn = rw c.in-Ready-Err.field-0-is at c.in-Ready-Err.ensures.in_turn in
    let item = rw c.in-Ready-Err.field-0-is at c.in-Ready-Err.ensures.item in
    let refuses = rw c.in-Ready-Err.field-0-is at c.in-Ready-Err.ensures.refuses in
    rw (← c.self.view_is) (record { in_turn = in_turn; item = item; refuses = refuses; faults = inl refl; refused = inr (refused_by g.S.Item.Source.meaning g.S.Item.Source.polled c.args.gate (length c.args.buf.now) _ c.in-Ready-Err.e (λ is. search rules) refuses) })
