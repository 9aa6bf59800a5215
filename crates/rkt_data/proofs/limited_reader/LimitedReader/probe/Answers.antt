use Rattle.std.proofs.Common.{true, Ok, Err, ◌≤◌, ◌∙◌, length, take, arith, ap, length-take}
use Rattle.rkt_base.specs.declared.poll.Poll.TheVariants.{Ready, Pending}
use Rattle.rkt_data.proofs.Streams.{probe_read}
use Rattle.rkt_data.proofs.CountedSources.{ByGate-over, ByGate-refl, PollsTo-read}
use Rattle.rkt_data.proofs.limited_reader.LimitedReader.probe.Goals as goal

pub returns-then-self-clause-by_gate : goal.returns-then-self-clause-by_gate
returns-then-self-clause-by_gate g c = ByGate-over g.S.Source.polled c.args.gate true _ _ (ByGate-refl g.S.Source.polled c.args.gate c.args.self.now.opened.tap)

pub returns-in-Ready-Ok-clause-by_gate : goal.returns-in-Ready-Ok-clause-by_gate
returns-in-Ready-Ok-clause-by_gate g c = let read = rw c.in-Ready-Ok.field-0-is at c.in-Ready-Ok.ensures.polled in
    rw (← c.self.view_is, c.in-Some.is) (PollsTo-read g.S.Source.polled c.args.gate 1 (Ready (Ok c.in-Ready-Ok.n)) _ _ (omega arith) (read (omega arith)))

pub returns-in-Ready-Err-clause-by_gate : goal.returns-in-Ready-Err-clause-by_gate
returns-in-Ready-Err-clause-by_gate g c = let read = rw c.in-Ready-Err.field-0-is at c.in-Ready-Err.ensures.polled in
    rw (← c.self.view_is, c.in-Some.is) (PollsTo-read g.S.Source.polled c.args.gate 1 (Ready (Err c.in-Ready-Err.e)) _ _ (omega arith) (read (omega arith)))

pub returns-in-Pending-clause-by_gate : goal.returns-in-Pending-clause-by_gate
returns-in-Pending-clause-by_gate g c =
    rw (← c.self.view_is, c.in-Some.is) (PollsTo-read g.S.Source.polled c.args.gate 1 Pending _ _ (omega arith) (c.in-Pending.ensures.polled (omega arith)))

pub returns-in-Ready-Ok-clause-answer : goal.returns-in-Ready-Ok-clause-answer
returns-in-Ready-Ok-clause-answer g c =
    let a = rw c.in-Ready-Ok.field-0-is at c.in-Ready-Ok.ensures.answer in
    let d = rw c.in-Some.is at c.self.invariant.0 in
    let off = ap (λ o. o.probed) c.self.view_is ∙ c.requires.not_probed in
    let long : length (take c.self.inside.held c.self.inside.bytes.items) ≤ c.self.inside.given = omega (arith, length-take c.self.inside.held c.self.inside.bytes.items) in
    let r = probe_read g.S.Source.meaning (take c.self.inside.held c.self.inside.bytes.items) c.self.inside.limit c.self.inside.given c.self.inside.probed _ c.in-Ready-Ok.n
    c.poll_read.new.buf d off long (omega (arith, a.0, c.poll_read.auto.buf)) (a.2 (omega arith)) in
    rw (← c.self.view_is, c.in-Some.is) r
