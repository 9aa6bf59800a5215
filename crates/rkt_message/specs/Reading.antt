-- What reading a body does to it, and what a read answers.
use Rattle.std.specs.Option.{ForSome}
use Rattle.std.specs.Prelude.{◌≡◌, ⊤, ℕ, ◌+◌, ◌≤◌, ◌<◌, List, [], length, take, drop, Option, option_map, Result, Ok, Err}
use Rattle.rkt_base.specs.declared.poll.Poll.{Poll}
use Rattle.rkt_base.specs.declared.poll.Poll.TheVariants.{Ready, Pending}
use Rattle.rkt_source.specs.Source.{Meaning, Keeps, Answers, Waits, Errs, Polled}
use Rattle.rkt_data.specs.CountedSource.{Ending, PollsTo}
use Rattle.rkt_source.specs.declared.source.Gate.{Gate}
use Rattle.rkt_source.specs.declared.source.SourceError.{SourceError}
use Rattle.rkt_message.specs.Body.{BodyOf, left_of}
use Rattle.rkt_message.specs.declared.content.Content.{Content}
use Rattle.rkt_message.specs.declared.content.Content.TheVariants as content

-- what it is after some reads under a Gate with this trip: the same, but for the bytes that were read, its preset size
-- and what a read may change of a source
abbrev pub ReadsOn : {S : Type 0} → (S → Meaning) → Option ℕ → Content S → Content S → Type 0
ReadsOn meaning trip content.None d = d ≡ content.None
ReadsOn meaning trip content.UnsizedNone d = d ≡ content.UnsizedNone
ReadsOn meaning trip (content.Sized rest size) d = (count : ℕ) × (now : Option ℕ) × (d ≡ content.Sized (drop count rest) now)
ReadsOn meaning trip (content.Phantom length size) d = (now : Option ℕ) × (d ≡ content.Phantom length now)
ReadsOn meaning trip (content.Streamed s) d = (t : _) × (d ≡ content.Streamed t) × Keeps trip (meaning s) (meaning t)

-- the same body, read on
pub record Follows {S : Type 0} (meaning : S → Meaning) (trip : Option ℕ) (b c : BodyOf S) : Type 0 where
  pub content : ReadsOn meaning trip b.content c.content
  pub chunk : c.chunk ≡ b.chunk

-- its source, where it has one, was called under this Gate alone, and its reads have ended so
abbrev pub ByGate : {S : Type 0} → Polled S → Gate → Ending → Content S → Content S → Type 0
ByGate polled gate how (content.Streamed s) (content.Streamed t) = PollsTo polled gate how s t
ByGate polled gate how _ _ = ⊤

-- its source, where it has one, was asked once, under this Gate with this room, and answered so
abbrev pub Asked : {S : Type 0} → Polled S → Gate → ℕ → Poll (Result ℕ SourceError) → Content S → Content S → Type 0
Asked polled gate room answer (content.Streamed s) d = (t : _) × (d ≡ content.Streamed t) × polled s gate room answer t
Asked polled gate room answer _ d = ⊤

-- its source, where it has one, was not asked
abbrev pub LeftAlone : {S : Type 0} → Content S → Content S → Type 0
LeftAlone (content.Streamed s) d = d ≡ content.Streamed s
LeftAlone _ d = ⊤

-- it has a source, which was Pending
abbrev pub StreamWaits : {S : Type 0} → (S → Meaning) → Content S → Content S → Type 0
StreamWaits meaning (content.Streamed s) (content.Streamed t) = Waits (meaning s) (meaning t)
StreamWaits meaning _ _ = ⊥

-- it has a source, which may be the cause of this error
abbrev pub StreamErrs : {S : Type 0} → (S → Meaning) → SourceError → Content S → Content S → Type 0
StreamErrs meaning e (content.Streamed s) (content.Streamed t) = Errs e (meaning s) (meaning t)
StreamErrs meaning e _ _ = ⊥

-- its source, where it has one, gave so many bytes
abbrev pub Takes : {S : Type 0} → (S → Meaning) → Content S → Content S → ℕ → Type 0
Takes meaning (content.Streamed s) (content.Streamed t) count = (meaning t).taken ≡ (meaning s).taken + count
Takes meaning _ _ count = ⊤

-- so many bytes were read: its source, where it has one, gave them, and what is left begins behind them
abbrev pub Moves : {S : Type 0} → (S → Meaning) → Content S → Content S → ℕ → Type 0
Moves meaning c d count = Takes meaning c d count × (left_of meaning d ≡ option_map (drop count) (left_of meaning c))

-- what a read answers, into a buffer that held `old` and holds `new`: the next bytes, and none only at the end
abbrev pub Reads : {S : Type 0} → (S → Meaning) → Content S → Content S → List ℕ → List ℕ → Poll (Result ℕ SourceError) → Type 0
Reads meaning c d old new Pending = StreamWaits meaning c d × (left_of meaning d ≡ left_of meaning c) × Takes meaning c d 0
Reads meaning c d old new (Ready (Err e)) =
    StreamErrs meaning e c d × (left_of meaning d ≡ left_of meaning c) × Takes meaning c d 0
Reads meaning c d old new (Ready (Ok n)) = (n ≤ length old) × (left_of meaning d ≡ option_map (drop n) (left_of meaning c))
    × ForSome (left_of meaning c) (λ w. (take n new ≡ take n w) × (0 < length old → n ≡ 0 → w ≡ []))
    × Takes meaning c d n

-- one read of a source under this Gate with all the room there is, which answers what the source does
abbrev pub ReadsSource : {S : Type 0} → (S → Meaning) → Polled S → Gate → S → Content S → List ℕ → List ℕ
    → Poll (Result ℕ SourceError) → Type 0
ReadsSource meaning polled gate s d old new answer =
    (t : _) × (d ≡ content.Streamed t) × polled s gate (length old) answer t × Answers (meaning s) (meaning t) old new answer
