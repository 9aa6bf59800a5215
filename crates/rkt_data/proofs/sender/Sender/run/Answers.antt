use Rattle.std.proofs.Common.{◌≡◌, ◌∙◌, length, take, ap, arith, sym}
use Rattle.std.proofs.lemmas.List.{with_items_is}
use Rattle.rkt_source.specs.Buffer.{items_of}
use Rattle.rkt_data.specs.Sending.{between, pumped_answer}
use Rattle.rkt_data.proofs.Drains.{Follows-refl}
use Rattle.rkt_data.proofs.Sends.{SendsNext-none, SendsNext-pumped, SentOf-pumped, SinkKeeps-refl, HasRoom-resumed, between-same}
use Rattle.rkt_data.proofs.sender.Sender.run.Goals as goal

pub returns-in-Err-clause-calls : goal.returns-in-Err-clause-calls
returns-in-Err-clause-calls g c =
    let same : c.resume.new.buf ≡ c.self.inside.buf = c.resume.ensures.taken ∙ sym c.in-Err.ensures.err in
    rw (← c.self.view_is, same) (SendsNext-none g.S.Source.meaning g.S.Source.polled g.K.Sink.written c.args.gate c.self.inside.pipe.opened c.self.inside.sink _)

pub returns-clause-calls : goal.returns-clause-calls
returns-clause-calls g c =
    let same : length c.copy-at.new.buf ≡ c.in-Ok.buf.len = omega (arith, c.copy-at.auto.buf, c.as_mut_slice.ensures.len) in
    let old : between c.self.inside.at c.self.inside.end c.as_mut_slice.result.now ≡ between c.self.inside.at c.self.inside.end (items_of c.self.inside.buf) =
    between-same c.self.inside.at c.self.inside.end c.as_mut_slice.result.now (items_of c.self.inside.buf) c.self.invariant.1 (ap (take c.self.inside.end) c.as_mut_slice.ensures.value ∙ c.in-Ok.ensures.ok c.self.inside.end c.self.invariant.2) in
    let pumps = rw old at c.copy-at.ensures.pumps in
    rw (← c.self.view_is, with_items_is c.in-Ok.buf c.copy-at.new.buf same)
    (SendsNext-pumped g.S.Source.meaning g.S.Source.polled g.K.Sink.meaning g.K.Sink.written c.args.gate _ _ c.self.inside.pipe c.copy-at.new.pipe c.self.inside.sink c.copy-at.new.sink c.self.inside.begun.value c.self.inside.from _ _ c.self.invariant.0 pumps pumps.calls)

pub returns-clause-unmet : goal.returns-clause-unmet
returns-clause-unmet g c = λ done full.
    let same : length c.copy-at.new.buf ≡ c.in-Ok.buf.len = omega (arith, c.copy-at.auto.buf, c.as_mut_slice.ensures.len) in
    let old : between c.self.inside.at c.self.inside.end c.as_mut_slice.result.now ≡ between c.self.inside.at c.self.inside.end (items_of c.self.inside.buf) =
    between-same c.self.inside.at c.self.inside.end c.as_mut_slice.result.now (items_of c.self.inside.buf) c.self.invariant.1 (ap (take c.self.inside.end) c.as_mut_slice.ensures.value ∙ c.in-Ok.ensures.ok c.self.inside.end c.self.invariant.2) in
    let pumps = rw old at c.copy-at.ensures.pumps in
    rw (← c.self.view_is, with_items_is c.in-Ok.buf c.copy-at.new.buf same)
    (SendsNext-pumped g.S.Source.meaning g.S.Source.polled g.K.Sink.meaning g.K.Sink.written c.args.gate _ _ c.self.inside.pipe c.copy-at.new.pipe c.self.inside.sink c.copy-at.new.sink c.self.inside.begun.value c.self.inside.from _ _ c.self.invariant.0 pumps (pumps.unmet full (ap pumped_answer done)))

pub invariant_of-self-2 : goal.invariant_of-self-2
invariant_of-self-2 g c =
    let same : length c.copy-at.new.buf ≡ c.in-Ok.buf.len = omega (arith, c.copy-at.auto.buf, c.as_mut_slice.ensures.len) in
    let old : between c.self.inside.at c.self.inside.end c.as_mut_slice.result.now ≡ between c.self.inside.at c.self.inside.end (items_of c.self.inside.buf) =
    between-same c.self.inside.at c.self.inside.end c.as_mut_slice.result.now (items_of c.self.inside.buf) c.self.invariant.1 (ap (take c.self.inside.end) c.as_mut_slice.ensures.value ∙ c.in-Ok.ensures.ok c.self.inside.end c.self.invariant.2) in
    let pumps = rw old at c.copy-at.ensures.pumps in
    let some = HasRoom-resumed c.self.inside.buf c.in-Ok.buf c.self.invariant.3 c.in-Ok.ensures.some in
    rw (with_items_is c.in-Ok.buf c.copy-at.new.buf same) (
      SentOf-pumped g.S.Source.meaning g.S.Source.polled g.K.Sink.meaning g.K.Sink.written c.args.gate _ c.self.inside.pipe c.copy-at.new.pipe c.self.inside.sink c.copy-at.new.sink c.self.inside.begun.value c.self.inside.from _ _ c.self.invariant.0 pumps,
      c.copy-at.ensures.order,
      c.copy-at.ensures.room,
      omega (arith, some, same),
    )

pub returns-in-Err-clause-follows : goal.returns-in-Err-clause-follows
returns-in-Err-clause-follows g c = rw (← c.self.view_is) (Follows-refl g.S.Source.meaning c.args.gate.tripped c.self.inside.pipe.opened)

pub returns-in-Err-clause-keeps : goal.returns-in-Err-clause-keeps
returns-in-Err-clause-keeps g c = rw (← c.self.view_is) (SinkKeeps-refl (g.K.Sink.meaning c.self.inside.sink))
