use Rattle.std.proofs.Common.{◌≡◌, ◌∙◌, arith, ap, sym, length, take}
use Rattle.std.proofs.lemmas.List.{with_items_is}
use Rattle.rkt_message.specs.Chunks.{IsRoom}
use Rattle.rkt_message.proofs.ChunkLemmas.{all_read, chunk_at_end, chunk_read}
use Rattle.rkt_message.proofs.chunk.read_chunk.Goals.{in-Ready-Ok-eq0, in-Ready-Ok, in-Ready-Err, in-Pending}
use Rattle.rkt_message.proofs.chunk.read_chunk.Goals as goal

pub returns-clause-reads : goal.returns-clause-reads
returns-clause-reads g c =
    let body : c.response.inside.body ≡ c.args.response.now.body = ap (λ r. r.body) c.response.view_is in
    let long : length c.as_mut_slice.result.now ≡ c.args.room.len = c.as_mut_slice.ensures.len in
    let room : IsRoom g.S.Source.meaning c.response.inside.body (length c.as_mut_slice.result.now) = rw (body, long) c.requires in
    rw (← body) (elim c.match-poll_read.branch [
      | in-Ready-Ok-eq0 w ↦
          let read = rw w.in-Ready-Ok-eq0.field-0-is at w.in-Ready-Ok-eq0.ensures.answer in
          rw w.result-is (chunk_at_end _ _ c.poll_read.new.self _ _ _ room w.in-Ready-Ok-eq0.field-0-0-test read)
      | in-Ready-Ok w ↦
          let read = rw w.in-Ready-Ok.field-0-is at w.in-Ready-Ok.ensures.answer in
          let all = rw w.in-Ready-Ok.field-0-is at w.in-Ready-Ok.ensures.bytes in
          let same : length c.poll_read.new.buf ≡ c.args.room.len = omega (arith, c.poll_read.auto.buf) in
          let bytes : w.from_vec.result ≡ take w.in-Ready-Ok.count c.poll_read.new.buf =
          w.from_vec.ensures ∙ w.truncate.ensures.items ∙ ap (take w.in-Ready-Ok.count) (with_items_is c.args.room c.poll_read.new.buf same) in
          rw w.result-is (chunk_read _ _ c.poll_read.new.self _ _ _ _ room (same ∙ sym long) w.in-Ready-Ok.count-test.1 bytes read (all_read _ _ _ _ _ all))
      | in-Ready-Err w ↦
          let read = rw w.in-Ready-Err.field-0-is at w.in-Ready-Err.ensures.answer in
          rw w.result-is read.0
      | in-Pending w ↦ rw w.result-is w.in-Pending.ensures.answer
    ])
