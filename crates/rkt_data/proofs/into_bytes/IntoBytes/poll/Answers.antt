use Rattle.std.proofs.Common.{◌≡◌, ◌∙◌, false, length, take, ap, sym, arith, rules, length-take-le}
use Rattle.rkt_data.proofs.Drains.{Gathered-more, Completes-gathered}
use Rattle.rkt_data.proofs.into_bytes.IntoBytes.poll.Goals as goal

pub returns-in-Bytes-clause-by_gate : goal.returns-in-Bytes-clause-by_gate
returns-in-Bytes-clause-by_gate g c = λ none. let ends = rw c.in-Bytes.is at c.finish-count.ensures.by_gate in rw (← c.self.view_is) ends

pub returns-in-Waiting-clause-by_gate : goal.returns-in-Waiting-clause-by_gate
returns-in-Waiting-clause-by_gate g c = λ none. let ends = rw c.in-Waiting.is at c.finish-count.ensures.by_gate in rw (← c.self.view_is) ends

pub returns-in-Failed-clause-by_gate : goal.returns-in-Failed-clause-by_gate
returns-in-Failed-clause-by_gate g c = λ none. let ends = rw c.in-Failed.is at c.finish-count.ensures.by_gate in rw (← c.self.view_is) ends

pub invariant_of-self-in-Waiting : goal.invariant_of-self-in-Waiting
invariant_of-self-in-Waiting g c =
    let undone : c.self.inside.done ≡ false = ap (λ s. s.done) c.self.view_is ∙ c.requires in
    let held = rw (c.in_default.is, undone) at c.self.invariant.0 in
    let waits = rw c.in-Waiting.is at c.finish-count.ensures.finishes in
    let more = rw c.resume_buffer-room.ensures.items at c.finish-count.ensures.gained.1 in
    rw (c.in_default.is, undone, more) ((Gathered-more held.0 c.finish-count.ensures.follows c.finish-count.ensures.gained.2, waits.0), omega (arith, c.finish-count.ensures.within, c.finish-count.new.room.ok.0))

pub returns-in-Bytes-clause-answer : goal.returns-in-Bytes-clause-answer
returns-in-Bytes-clause-answer g c = λ unfailed.
    let undone : c.self.inside.done ≡ false = ap (λ s. s.done) c.self.view_is ∙ c.requires in
    let held = rw (c.in_default.is, undone) at c.self.invariant.0 in
    let ends = rw c.in-Bytes.is at c.finish-count.ensures.finishes in
    let more = rw c.resume_buffer-room.ensures.items at c.finish-count.ensures.gained.1 in
    let gathered = Gathered-more held.0 c.finish-count.ensures.follows c.finish-count.ensures.gained.2 in
    let long : length (take c.finish-count.result.0 c.finish-count.new.room.items) ≡ c.finish-count.result.0 = length-take-le c.finish-count.result.0 c.finish-count.new.room.items (omega (arith, c.finish-count.ensures.within, c.finish-count.new.room.ok.0)) in
    rw (c.new.ensures, ← c.self.view_is) (search rules, Completes-gathered c.truncate.new.self.items record { written = c.finish-count.result.0; complete = c.in-Bytes.complete } (c.truncate.ensures.items ∙ more) (sym long ∙ ap length more) gathered c.finish-count.ensures.follows ends.0 ends.1 ends.2)
