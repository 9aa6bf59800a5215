-- What the chunks of a source and a mapped answer are.
use Rattle.std.specs.Option.{ForSome}
use Rattle.std.specs.Prelude.{◌≡◌, ⊤, ℕ, ◌+◌, ◌<◌, ◌≤◌, Bool, true, false, length, take, drop, Option, None, Some, Result, Ok, Err, Vec}
use Rattle.std.specs.declared.alloc.Global.{Global}
use Rattle.rkt_base.specs.declared.poll.Poll.{Poll}
use Rattle.rkt_base.specs.declared.poll.Poll.TheVariants.{Ready, Pending}
use Rattle.rkt_source.specs.Source.{Meaning, Keeps, Waits, Errs, Polled}
use Rattle.rkt_data.specs.Gathering.{Causes, cause_of}
use Rattle.rkt_source.specs.declared.source.Gate.{Gate}
use Rattle.rkt_source.specs.declared.source.SourceError.{SourceError}
use Rattle.rkt_data.specs.declared.error.DataError.{DataError}

pub record Chunks (R : Type 0) : Type 0 where
  pub reader : R
  -- the most bytes of a chunk
  pub cap : ℕ
  -- the end was met, or a fault
  pub ended : Bool

-- when a chunk may fail with each error
abbrev pub ChunkErr : {R : Type 0} → (R → Meaning) → Chunks R → Chunks R → DataError → Type 0
ChunkErr meaning a b e =
    Causes (λ cause. (b.ended ≡ true) × Errs cause (meaning a.reader) (meaning b.reader)) ⊥ (λ valid_up_to. ⊥) (b ≡ a) e

-- a chunk is the next bytes of the source, and there is none at its end
abbrev pub ReadsChunk : {R : Type 0} → (R → Meaning) → Chunks R → Chunks R → Poll (Option (Result (Vec ℕ Global) DataError))
    → Type 0
ReadsChunk meaning a b Pending = (b.ended ≡ false) × Waits (meaning a.reader) (meaning b.reader)
ReadsChunk meaning a b (Ready None) =
    (b.ended ≡ true) × ForSome (meaning a.reader).whole (λ w. (meaning a.reader).taken ≡ length w)
ReadsChunk meaning a b (Ready (Some (Err e))) = ((meaning b.reader).taken ≡ (meaning a.reader).taken) × ChunkErr meaning a b e
ReadsChunk meaning a b (Ready (Some (Ok v))) =
    (b.ended ≡ false)
    × (0 < length v.items)
    × (length v.items ≤ a.cap)
    × ((meaning b.reader).taken ≡ (meaning a.reader).taken + length v.items)
    × ForSome (meaning a.reader).whole (λ w. v.items ≡ take (length v.items) (drop (meaning a.reader).taken w))

abbrev pub GivesUnlessEnded : {R : Type 0} → (R → Meaning) → Option ℕ → Bool → Chunks R → Chunks R
    → Poll (Option (Result (Vec ℕ Global) DataError)) → Type 0
GivesUnlessEnded meaning trip true a b answer = (b ≡ a) × (answer ≡ Ready None)
GivesUnlessEnded meaning trip false a b answer =
    Keeps trip (meaning a.reader) (meaning b.reader) × ReadsChunk meaning a b answer

-- what a poll for the next chunk answers; once it has ended it answers None
abbrev pub GivesChunk : {R : Type 0} → (R → Meaning) → Option ℕ → Chunks R → Chunks R
    → Poll (Option (Result (Vec ℕ Global) DataError)) → Type 0
GivesChunk meaning trip a b answer = GivesUnlessEnded meaning trip a.ended a b answer

-- an error comes of a read that it has answered, or of none
abbrev pub AsksForError : {R : Type 0} → Polled R → Gate → ℕ → R → Result Bool SourceError → R → Type 0
AsksForError polled gate room s (Ok x) t = t ≡ s
AsksForError polled gate room s (Err e) t = polled s gate room (Ready (Err e)) t

-- the one read under this Gate with this room that the answer comes of; want of memory comes of none
abbrev pub AsksForChunk : {R : Type 0} → Polled R → Gate → ℕ → R → Poll (Option (Result (Vec ℕ Global) DataError)) → R → Type 0
AsksForChunk polled gate room s Pending t = polled s gate room Pending t
AsksForChunk polled gate room s (Ready None) t = polled s gate room (Ready (Ok 0)) t
AsksForChunk polled gate room s (Ready (Some (Ok v))) t = polled s gate room (Ready (Ok (length v.items))) t
AsksForChunk polled gate room s (Ready (Some (Err e))) t = AsksForError polled gate room s (cause_of e) t

-- the closure may be called on the error, where there is one
abbrev pub CanMapErr : {T E : Type 0} → (E → Type 0) → Poll (Option (Result T E)) → Type 0
CanMapErr pre Pending = ⊤
CanMapErr pre (Ready None) = ⊤
CanMapErr pre (Ready (Some (Ok x))) = ⊤
CanMapErr pre (Ready (Some (Err e))) = pre e

-- the answer is the same, but for the error
abbrev pub MapsErr : {T E U : Type 0} → (E → U → Type 0) → Poll (Option (Result T E)) → Poll (Option (Result T U)) → Type 0
MapsErr post Pending answer = answer ≡ Pending
MapsErr post (Ready None) answer = answer ≡ Ready None
MapsErr post (Ready (Some (Ok x))) answer = answer ≡ Ready (Some (Ok x))
MapsErr post (Ready (Some (Err e))) answer = (u : _) × post e u × (answer ≡ Ready (Some (Err u)))
