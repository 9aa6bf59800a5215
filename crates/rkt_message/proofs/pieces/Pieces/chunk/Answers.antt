use Rattle.std.proofs.Common.{◌≡◌, ◌≢◌, ◌∙◌, ℕ, List, [], arith, ap, false, inl, inr, refl, Option, sym, subst}
use Rattle.rkt_source.specs.Source.{Meaning}
use Rattle.rkt_message.specs.Body.{preset_of}
use Rattle.rkt_message.specs.Reading.{Follows}
use Rattle.rkt_message.specs.Response.{ResponseOf}
use Rattle.rkt_message.specs.Sending.{ReadsOnUnder, InvariantAt, is_done}
use Rattle.rkt_message.specs.declared.piece.Piece.{Piece}
use Rattle.rkt_message.specs.declared.stage.Stage.{Stage}
use Rattle.rkt_message.specs.declared.stage.Stage.TheVariants as stage
use Rattle.rkt_message.proofs.ReadOnLemmas.{left_alone, never_waited, reads_more, sends_on, waited_more, waited_still}
use Rattle.rkt_message.proofs.SendingLemmas.{behind_head, chunk_stands, gives_chunk, gives_end, is_at_body, owes_still, stands_still, takes_full}
use Rattle.rkt_message.proofs.pieces.Pieces.chunk.Goals as goal

reads_under : {S : Type 0} (meaning : S → Meaning) (trip : Option ℕ) (p q : ResponseOf S) → q.status ≡ p.status → q.headers ≡ p.headers → Follows meaning trip p.body q.body → preset_of q.body.content ≡ preset_of p.body.content → ReadsOnUnder meaning trip p q
reads_under meaning trip p q status headers follows preset = record { status = status; headers = headers; body = follows; size = inl preset }

pub returns-in-Err-clause-by_gate : goal.returns-in-Err-clause-by_gate
returns-in-Err-clause-by_gate g c = rw (c.in-Err.ensures.err, ← c.self.view_is) (left_alone _)

pub returns-in-Bytes-clause-by_gate : goal.returns-in-Bytes-clause-by_gate
returns-in-Bytes-clause-by_gate g c = let asks = rw c.in-Bytes.is at c.in-Ok.ensures.by_gate in rw (c.give.ensures.answer, ← c.self.view_is) asks

pub returns-in-End-clause-by_gate : goal.returns-in-End-clause-by_gate
returns-in-End-clause-by_gate g c = let asks = rw c.in-End.is at c.in-Ok.ensures.by_gate in rw (c.give-in-End.ensures.answer, ← c.self.view_is) asks

pub returns-then-waits-self-clause-by_gate : goal.returns-then-waits-self-clause-by_gate
returns-then-waits-self-clause-by_gate g c = let asks = rw c.in-Waiting.is at c.in-Ok.ensures.by_gate in rw (← c.self.view_is) asks

pub returns-else-waits-self-clause-by_gate : goal.returns-else-waits-self-clause-by_gate
returns-else-waits-self-clause-by_gate g c = let asks = rw c.in-Waiting.is at c.in-Ok.ensures.by_gate in rw (← c.self.view_is) (inl asks)

pub returns-in-Refused-clause-by_gate : goal.returns-in-Refused-clause-by_gate
returns-in-Refused-clause-by_gate g c = let asks = rw c.in-Refused.is at c.in-Ok.ensures.by_gate in rw (← c.self.view_is) (inr (_, asks))

pub invariant_of-self : goal.invariant_of-self
invariant_of-self g c =
    let r = c.next_chunk.ensures in
    let stands = subst (λ (p : ResponseOf _). InvariantAt g.S.Source.meaning c.self.inside.stage p c.self.inside.begun.value c.self.inside.given) (sym c.in-Err.ensures.err) c.self.invariant.stands in
    sends_on _ _ _ _ _ _ _ _ _ _ _ _ c.self.invariant stands r.status r.headers r.follows r.preset c.self.invariant.below (waited_still _ _ _ _ _ r.follows.content c.self.invariant.waited)

pub invariant_of-self-in-Bytes : goal.invariant_of-self-in-Bytes
invariant_of-self-in-Bytes g c =
    let r = c.next_chunk.ensures in
    let below = c.self.invariant.below in
    let going : is_done c.self.inside.stage ≡ false = ap (λ s. s.is_over) c.self.view_is ∙ c.requires.going in
    let some : c.self.inside.given ≢ [] = λ none. c.requires.begun (sym (ap (λ s. s.given) c.self.view_is) ∙ none) in
    let at = is_at_body g.S.Source.meaning c.self.inside.stage c.self.inside.response c.self.inside.begun.value c.self.inside.given c.self.invariant.stands going some in
    let reads = rw c.in-Bytes.is at c.in-Ok.ensures.reads in
    let completes = behind_head g.S.Source.meaning c.self.inside.stage c.self.inside.response c.self.inside.begun.value c.self.inside.given c.self.invariant.stands going some in
    let stands = chunk_stands g.S.Source.meaning c.self.inside.response c.next_chunk.new.response c.self.inside.begun.value c.self.inside.given c.in-Bytes.bytes completes r.follows.chunk reads in
    let stands_now = subst (λ (x : Stage). InvariantAt g.S.Source.meaning x c.next_chunk.new.response c.self.inside.begun.value c.give.new.given) (sym at)
    (subst (λ (ps : List Piece). InvariantAt g.S.Source.meaning stage.Body c.next_chunk.new.response c.self.inside.begun.value ps) (sym c.give.ensures.given) stands) in
    sends_on _ _ _ _ _ _ _ _ _ _ _ _ c.self.invariant stands_now r.status r.headers r.follows r.preset (omega arith) (never_waited g.S.Source.meaning _)

pub invariant_of-self-in-End : goal.invariant_of-self-in-End
invariant_of-self-in-End g c =
    let r = c.next_chunk.ensures in
    let below = c.self.invariant.below in
    sends_on _ _ _ stage.Done _ _ _ _ _ _ _ _ c.self.invariant tt r.status r.headers r.follows r.preset (omega arith) (never_waited g.S.Source.meaning _)

pub invariant_of-self-then-waits-self : goal.invariant_of-self-then-waits-self
invariant_of-self-then-waits-self g c =
    let r = c.next_chunk.ensures in
    let reads = rw c.in-Waiting.is at c.in-Ok.ensures.reads in
    let some : c.self.inside.given ≢ [] = λ none. c.requires.begun (sym (ap (λ s. s.given) c.self.view_is) ∙ none) in
    let stands = stands_still g.S.Source.meaning c.self.inside.stage c.self.inside.response c.next_chunk.new.response c.self.inside.begun.value c.self.inside.given c.self.invariant.stands some r.follows.chunk reads.1 in
    sends_on _ _ _ _ _ _ _ _ _ _ _ _ c.self.invariant stands r.status r.headers r.follows r.preset c.if-waits-self.true (waited_more g.S.Source.meaning _ _ _ c.self.invariant.waited reads.0)

pub invariant_of-self-in-Waiting : goal.invariant_of-self-in-Waiting
invariant_of-self-in-Waiting g c =
    let r = c.next_chunk.ensures in
    sends_on _ _ _ stage.Done _ _ _ _ _ _ _ _ c.self.invariant tt r.status r.headers r.follows r.preset c.self.invariant.below (waited_still _ _ _ _ _ r.follows.content c.self.invariant.waited)

pub invariant_of-self-in-Refused : goal.invariant_of-self-in-Refused
invariant_of-self-in-Refused g c =
    let r = c.next_chunk.ensures in
    sends_on _ _ _ stage.Done _ _ _ _ _ _ _ _ c.self.invariant tt r.status r.headers r.follows r.preset c.self.invariant.below (waited_still _ _ _ _ _ r.follows.content c.self.invariant.waited)

pub returns-in-Bytes-clause-read_on : goal.returns-in-Bytes-clause-read_on
returns-in-Bytes-clause-read_on g c = let r = c.next_chunk.ensures in reads_more _ _ _ _ _ c.self.invariant.read_on r.status r.headers r.follows r.preset

pub returns-in-End-clause-read_on : goal.returns-in-End-clause-read_on
returns-in-End-clause-read_on g c = let r = c.next_chunk.ensures in reads_more _ _ _ _ _ c.self.invariant.read_on r.status r.headers r.follows r.preset

pub returns-then-waits-self-clause-read_on : goal.returns-then-waits-self-clause-read_on
returns-then-waits-self-clause-read_on g c = let r = c.next_chunk.ensures in reads_more _ _ _ _ _ c.self.invariant.read_on r.status r.headers r.follows r.preset

pub returns-else-waits-self-clause-read_on : goal.returns-else-waits-self-clause-read_on
returns-else-waits-self-clause-read_on g c = let r = c.next_chunk.ensures in reads_more _ _ _ _ _ c.self.invariant.read_on r.status r.headers r.follows r.preset

pub returns-in-Refused-clause-read_on : goal.returns-in-Refused-clause-read_on
returns-in-Refused-clause-read_on g c = let r = c.next_chunk.ensures in reads_more _ _ _ _ _ c.self.invariant.read_on r.status r.headers r.follows r.preset

pub returns-in-Bytes-clause-answer : goal.returns-in-Bytes-clause-answer
returns-in-Bytes-clause-answer g c =
    let r = c.next_chunk.ensures in
    let going : is_done c.self.inside.stage ≡ false = ap (λ s. s.is_over) c.self.view_is ∙ c.requires.going in
    let some : c.self.inside.given ≢ [] = λ none. c.requires.begun (sym (ap (λ s. s.given) c.self.view_is) ∙ none) in
    let reads = rw c.in-Bytes.is at c.in-Ok.ensures.reads in
    let completes = behind_head g.S.Source.meaning c.self.inside.stage c.self.inside.response c.self.inside.begun.value c.self.inside.given c.self.invariant.stands going some in
    let stands = chunk_stands g.S.Source.meaning c.self.inside.response c.next_chunk.new.response c.self.inside.begun.value c.self.inside.given c.in-Bytes.bytes completes r.follows.chunk reads in
    let stands_now = subst (λ (ps : List Piece). InvariantAt g.S.Source.meaning stage.Body c.next_chunk.new.response c.self.inside.begun.value ps) (sym c.give.ensures.given) stands in
    rw (c.give.ensures.answer, ← c.self.view_is) (gives_chunk _ _ _ _ some c.give.ensures.given going refl (rw r.follows.chunk c.self.invariant.chunk) reads stands_now)

pub returns-in-End-clause-answer : goal.returns-in-End-clause-answer
returns-in-End-clause-answer g c =
    let going : is_done c.self.inside.stage ≡ false = ap (λ s. s.is_over) c.self.view_is ∙ c.requires.going in
    let some : c.self.inside.given ≢ [] = λ none. c.requires.begun (sym (ap (λ s. s.given) c.self.view_is) ∙ none) in
    let reads = rw c.in-End.is at c.in-Ok.ensures.reads in
    let completes = behind_head g.S.Source.meaning c.self.inside.stage c.self.inside.response c.self.inside.begun.value c.self.inside.given c.self.invariant.stands going some in
    rw (c.give-in-End.ensures.answer, ← c.self.view_is) (gives_end _ _ _ some c.give-in-End.ensures.given refl refl refl reads completes)

pub returns-then-waits-self-clause-answer : goal.returns-then-waits-self-clause-answer
returns-then-waits-self-clause-answer g c =
    let reads = rw c.in-Waiting.is at c.in-Ok.ensures.reads in
    let some : c.self.inside.given ≢ [] = λ none. c.requires.begun (sym (ap (λ s. s.given) c.self.view_is) ∙ none) in
    rw (← c.self.view_is) (
      some,
      record {
        pending = reads.0;
        once_more = refl;
        below = c.if-waits-self.true;
        given = refl;
        over = refl;
        left = λ pieces owed. owes_still g.S.Source.meaning (is_done c.self.inside.stage) c.self.inside.response.body c.next_chunk.new.response.body pieces c.next_chunk.ensures.follows.chunk reads.1 owed;
        takes = reads.2;
      },
    )

pub returns-in-Bytes-clause-full : goal.returns-in-Bytes-clause-full
returns-in-Bytes-clause-full g c = let reads = rw c.in-Bytes.is at c.in-Ok.ensures.reads in rw (c.give.ensures.answer, ← c.self.view_is) (takes_full g.S.Source.meaning c.self.inside.response.body c.next_chunk.new.response.body c.in-Bytes.bytes reads)

pub returns-in-Err-clause-reads : goal.returns-in-Err-clause-reads
returns-in-Err-clause-reads g c = let r = c.next_chunk.ensures in rw (← c.self.view_is) (reads_under _ _ _ _ r.status r.headers r.follows r.preset)

pub returns-in-Bytes-clause-reads : goal.returns-in-Bytes-clause-reads
returns-in-Bytes-clause-reads g c = let r = c.next_chunk.ensures in rw (← c.self.view_is) (reads_under _ _ _ _ r.status r.headers r.follows r.preset)

pub returns-in-End-clause-reads : goal.returns-in-End-clause-reads
returns-in-End-clause-reads g c = let r = c.next_chunk.ensures in rw (← c.self.view_is) (reads_under _ _ _ _ r.status r.headers r.follows r.preset)

pub returns-then-waits-self-clause-reads : goal.returns-then-waits-self-clause-reads
returns-then-waits-self-clause-reads g c = let r = c.next_chunk.ensures in rw (← c.self.view_is) (reads_under _ _ _ _ r.status r.headers r.follows r.preset)

pub returns-else-waits-self-clause-reads : goal.returns-else-waits-self-clause-reads
returns-else-waits-self-clause-reads g c = let r = c.next_chunk.ensures in rw (← c.self.view_is) (reads_under _ _ _ _ r.status r.headers r.follows r.preset)

pub returns-in-Refused-clause-reads : goal.returns-in-Refused-clause-reads
returns-in-Refused-clause-reads g c = let r = c.next_chunk.ensures in rw (← c.self.view_is) (reads_under _ _ _ _ r.status r.headers r.follows r.preset)
