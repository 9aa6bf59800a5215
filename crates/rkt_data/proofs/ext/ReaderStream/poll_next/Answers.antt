use Rattle.std.proofs.Common.{◌≡◌, ◌∙◌, length, take, ap, sym, subst, arith, length-take-le, Ok}
use Rattle.std.proofs.lemmas.List.{with_items_is}
use Rattle.rkt_base.specs.declared.poll.Poll.TheVariants.{Ready}
use Rattle.rkt_data.proofs.Chunks.{caused}
use Rattle.rkt_data.proofs.ext.ReaderStream.poll_next.Goals as goal

pub returns-in-Ready-Ok-eq0-clause-by_gate : goal.returns-in-Ready-Ok-eq0-clause-by_gate
returns-in-Ready-Ok-eq0-clause-by_gate g c = λ unended.
    let all : length c.as_mut_slice.result.now ≡ c.self.inside.cap = grind (arith, c.as_mut_slice.ensures.len) in
    let h = c.in-Ready-Ok-eq0 in
    let read = rw (h.field-0-is, h.field-0-0-test, all) at h.ensures.polled in
    rw (← c.self.view_is) (read c.self.invariant)

pub returns-in-Ready-Ok-clause-by_gate : goal.returns-in-Ready-Ok-clause-by_gate
returns-in-Ready-Ok-clause-by_gate g c = λ unended.
    let all : length c.as_mut_slice.result.now ≡ c.self.inside.cap = grind (arith, c.as_mut_slice.ensures.len) in
    let a = rw c.in-Ready-Ok.field-0-is at c.in-Ready-Ok.ensures.answer in
    let read = rw (c.in-Ready-Ok.field-0-is, all) at c.in-Ready-Ok.ensures.polled in
    let same : length c.poll_read.new.buf ≡ c.in-Ok.chunk.len = omega (arith, c.poll_read.auto.buf, c.as_mut_slice.ensures.len) in
    let items : c.truncate.new.self.items ≡ take c.in-Ready-Ok.n c.poll_read.new.buf = c.truncate.ensures.items ∙ ap (take c.in-Ready-Ok.n) (with_items_is c.in-Ok.chunk c.poll_read.new.buf same) in
    let long : length c.truncate.new.self.items ≡ c.in-Ready-Ok.n = ap length items ∙ length-take-le c.in-Ready-Ok.n c.poll_read.new.buf (omega (arith, a.0, c.poll_read.auto.buf)) in
    subst (λ k. g.R.Source.polled c.args.self.now.reader c.args.gate c.args.self.now.cap (Ready (Ok k)) c.poll_read.new.self) (sym long) (rw (← c.self.view_is) (read c.self.invariant))

pub returns-in-Ready-Err-clause-by_gate : goal.returns-in-Ready-Err-clause-by_gate
returns-in-Ready-Err-clause-by_gate g c = λ unended.
    let all : length c.as_mut_slice.result.now ≡ c.self.inside.cap = grind (arith, c.as_mut_slice.ensures.len) in
    let read = rw (c.in-Ready-Err.field-0-is, all) at c.in-Ready-Err.ensures.polled in
    rw (← c.self.view_is) (caused g.R.Source.polled c.args.gate c.self.inside.cap c.in-Ready-Err.e c.from.result _ _ c.from.ensures (read c.self.invariant))

pub returns-in-Pending-clause-by_gate : goal.returns-in-Pending-clause-by_gate
returns-in-Pending-clause-by_gate g c = λ unended.
    let all : length c.as_mut_slice.result.now ≡ c.self.inside.cap = grind (arith, c.as_mut_slice.ensures.len) in
    let read = rw all at c.in-Pending.ensures.polled in
    rw (← c.self.view_is) (read c.self.invariant)
