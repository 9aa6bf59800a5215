-- A body in chunks.
use Rattle.std.proofs.Common.{◌≡◌, ◌<◌, ◌++◌, ◌∙◌, ◌⊎◌, inl, inr, ℕ, zero, suc, arith, List, [], ◌∷◌, Option, Some, None, Result, Ok, length, map, min, take, drop, option_map, refl, sym, ap, subst, length-take, take-append-drop}
use Rattle.std.specs.List.{AllByRecursion, concat}
use Rattle.std.specs.Option.{ForSome}
use Rattle.rkt_base.specs.declared.poll.Poll.{Poll}
use Rattle.rkt_base.specs.declared.poll.Poll.TheVariants.{Ready}
use Rattle.rkt_source.specs.Source.{Meaning}
use Rattle.rkt_message.specs.Body.{BodyOf, left_of}
use Rattle.std.proofs.lemmas.List.{take_min}
use Rattle.rkt_message.specs.Chunks.{FillsRoom, IsAtEnd, IsNext, IsRoom}
use Rattle.rkt_message.specs.Reading.{Reads, Takes}
use Rattle.rkt_message.specs.Sent.{IsChunk, IsFull, SentBody}
use Rattle.rkt_source.specs.declared.source.SourceError.{SourceError}
use Rattle.rkt_message.specs.declared.content.Content.{Content}
use Rattle.rkt_message.specs.declared.content.Content.TheVariants as content
use Rattle.rkt_message.specs.declared.piece.Piece.{Piece}
use Rattle.rkt_message.specs.declared.piece.Piece.TheVariants.{Chunk, End}

some_or_none : (n : ℕ) → (n ≡ 0) ⊎ (0 < n)
some_or_none zero = inl refl
some_or_none (suc n) = inr (omega arith)

-- a read of nothing is the end, also where there was no room
pub chunk_at_end : {S : Type 0} (meaning : S → Meaning) (a b : BodyOf S) (old new : List ℕ) (n : ℕ) → IsRoom meaning a (length old) → n ≡ 0
    → Reads meaning a.content b.content old new (Ready (Ok n)) → IsAtEnd meaning a × Takes meaning a.content b.content 0
chunk_at_end meaning a b old new n room none read = (
  λ left told. elim (some_or_none (length old)) [ inl empty ↦ room.none empty left told | inr some ↦ (read.2 left told).1 some none ],
  subst (Takes meaning a.content b.content) none read.3,
)

-- of a body of bytes a read gives as many as there is room for
abbrev pub ReadsAll : {S : Type 0} → Content S → ℕ → ℕ → Type 0
ReadsAll c room n = (rest : List ℕ) (size : Option ℕ) → c ≡ content.Sized rest size → n ≡ min room (length rest)

-- a read that gave so many bytes
abbrev pub answered : ℕ → Poll (Result ℕ SourceError)
answered n = Ready (Ok n)

-- what `poll_read` says of bytes
pub all_read : {S : Type 0} (c d : Content S) (room n : ℕ) (after : List ℕ → Option ℕ → Content S)
    → ((rest : List ℕ) (size : Option ℕ) → c ≡ content.Sized rest size → (answered n ≡ answered (min room (length rest))) × (d ≡ after rest size)) → ReadsAll c room n
all_read c d room n after all rest size is = cc ((all rest size is).0)

full_chunk : {S : Type 0} (meaning : S → Meaning) (c : Content S) (most room n : ℕ) (new bytes : List ℕ) → FillsRoom c most room → ReadsAll c room n → bytes ≡ take n new
    → ForSome (left_of meaning c) (λ w. take n new ≡ take n w) → IsFull c most bytes
full_chunk meaning content.None most room n new bytes fills all is front = tt
full_chunk meaning content.UnsizedNone most room n new bytes fills all is front = tt
full_chunk meaning (content.Phantom length size) most room n new bytes fills all is front = tt
full_chunk meaning (content.Streamed s) most room n new bytes fills all is front = tt
full_chunk meaning (content.Sized rest size) most room n new bytes fills all is front =
    let count : n ≡ min most (length rest) = omega (arith, fills, all rest size refl) in
    is ∙ front rest refl ∙ ap (λ (k : ℕ). take k rest) count ∙ take_min most rest

-- what a read gave is the next chunk
pub chunk_read : {S : Type 0} (meaning : S → Meaning) (a b : BodyOf S) (old new bytes : List ℕ) (n : ℕ) → IsRoom meaning a (length old) → length new ≡ length old
    → (n ≡ 0 → ⊥) → bytes ≡ take n new → Reads meaning a.content b.content old new (Ready (Ok n)) → ReadsAll a.content (length old) n
    → IsChunk a.chunk bytes × IsNext meaning a b bytes × Takes meaning a.content b.content (length bytes) × IsFull a.content a.chunk bytes
chunk_read meaning a b old new bytes n room same some is read all =
    let within = room.within in
    let long : length bytes ≡ n = rw is (omega (arith, length-take n new, read.0)) in (
      record { some = omega arith; small = omega (arith, read.0) },
      λ left told. (
        drop n left,
        sym (take-append-drop n left) ∙ ap (λ (front : List ℕ). front ++ drop n left) (sym (read.2 left told).0 ∙ sym is),
        read.1 ∙ ap (option_map (drop n)) told,
      ),
      subst (Takes meaning a.content b.content) (sym long) read.3,
      full_chunk meaning a.content a.chunk (length old) n new bytes room.fills all is (λ w told. (read.2 w told).0),
    )

-- a chunk in front of what is sent of the rest
pub chunk_first : {S : Type 0} (meaning : S → Meaning) (a b : BodyOf S) (bytes : List ℕ) (pieces : List Piece)
    → b.chunk ≡ a.chunk → IsChunk a.chunk bytes → IsNext meaning a b bytes → SentBody meaning b pieces → SentBody meaning a (Chunk bytes ∷ pieces)
chunk_first meaning a b bytes pieces same one next sent = (
  bytes ∷ sent.0,
  (one, subst (λ (most : ℕ). AllByRecursion (IsChunk most) sent.0) same sent.1),
  λ left told. let n = next left told in ap (λ (rest : List ℕ). bytes ++ rest) (sent.2 n.0 n.2) ∙ sym n.1,
  ap (λ (ps : List Piece). Chunk bytes ∷ ps) sent.3,
)

-- one byte a chunk
bytewise : List ℕ → List (List ℕ)
bytewise [] = []
bytewise (b ∷ bs) = (b ∷ []) ∷ bytewise bs

bytewise-chunks : (most : ℕ) (bytes : List ℕ) → 0 < most → AllByRecursion (IsChunk most) (bytewise bytes)
unfolding bytewise
bytewise-chunks most [] some = tt
bytewise-chunks most (b ∷ bs) some = (record { some = omega arith; small = omega arith }, bytewise-chunks most bs some)

concat-bytewise : (bytes : List ℕ) → concat (bytewise bytes) ≡ bytes
unfolding bytewise
concat-bytewise [] = refl
concat-bytewise (b ∷ bs) = ap (λ (rest : List ℕ). b ∷ rest) (concat-bytewise bs)

cut_up : (most : ℕ) (left : Option (List ℕ)) → 0 < most → (chunks : List (List ℕ)) × AllByRecursion (IsChunk most) chunks × ForSome left (λ bytes. concat chunks ≡ bytes)
cut_up most None some = ([], tt, λ bytes told. absurd (cc told))
cut_up most (Some bytes) some = (bytewise bytes, bytewise-chunks most bytes some, λ same told. concat-bytewise bytes ∙ cc told)

-- every body can be sent in chunks
pub can_be_sent : {S : Type 0} (meaning : S → Meaning) (body : BodyOf S) → 0 < body.chunk → (pieces : List Piece) × SentBody meaning body pieces
can_be_sent meaning body some = let cut = cut_up body.chunk (left_of meaning body.content) some in (map Chunk cut.0 ++ End ∷ [], (cut.0, cut.1, cut.2, refl))
