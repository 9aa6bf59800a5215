-- What a state holds that sends a response, and what one poll of it answers.
use Rattle.std.specs.Prelude.{◌≡◌, ⊤, ℕ, ◌+◌, ◌<◌, ◌≤◌, ◌⊎◌, ◌↔◌, ◌++◌, ◌≢◌, Bool, true, false, List, [], ◌∷◌, length, Option, Result, Ok, Err}
use Rattle.rkt_base.specs.declared.poll.Poll.{Poll}
use Rattle.rkt_base.specs.declared.poll.Poll.TheVariants.{Ready, Pending}
use Rattle.rkt_source.specs.Source.{Meaning, Polled}
use Rattle.rkt_source.specs.declared.source.SourceError.{SourceError}
use Rattle.rkt_message.specs.Body.{BodyOf, preset_of, size_of}
use Rattle.rkt_source.specs.declared.source.Gate.{Gate}
use Rattle.rkt_message.specs.Reading.{Asked, Follows, LeftAlone, StreamErrs, StreamWaits, Takes}
use Rattle.rkt_message.specs.Response.{ResponseOf}
use Rattle.rkt_message.specs.Sent.{IsFull, Sent, SentBody, has_head}
use Rattle.rkt_message.specs.declared.content.Content.{Content}
use Rattle.rkt_message.specs.declared.content.Content.TheVariants as content
use Rattle.rkt_message.specs.declared.piece.Piece.{Piece}
use Rattle.rkt_message.specs.declared.piece.Piece.TheVariants.{Head, Chunk, End}
use Rattle.rkt_message.specs.declared.piece.PieceError.{PieceError}
use Rattle.rkt_message.specs.declared.piece.PieceError.TheVariants as error
use Rattle.rkt_message.specs.declared.stage.Stage.{Stage}
use Rattle.rkt_message.specs.declared.stage.Stage.TheVariants as stage

pub record Sending (S : Type 0) : Type 0 where
  pub response : ResponseOf S
  -- the same as it was handed in
  pub begun : ResponseOf S
  -- how many Pendings in a row are a fault of the body
  pub turns : ℕ
  -- how many there were
  pub waits : ℕ
  -- the pieces that it was sent as so far
  pub given : List Piece
  -- whether the last answer was given: the end, or an error other than want of memory
  pub is_over : Bool

-- the same response, but for its body, which may have been read further under Gates with this trip; a size that was
-- computed may be kept
pub record ReadsOnUnder {S : Type 0} (meaning : S → Meaning) (trip : Option ℕ) (p q : ResponseOf S) : Type 0 where
  pub status : q.status ≡ p.status
  pub headers : q.headers ≡ p.headers
  pub body : Follows meaning trip p.body q.body
  pub size : (preset_of q.body.content ≡ preset_of p.body.content) ⊎ (preset_of q.body.content ≡ size_of p.body.content)

-- the same under any Gates
abbrev pub ReadOn : {S : Type 0} → (S → Meaning) → ResponseOf S → ResponseOf S → Type 0
ReadOn meaning p q = (trip : Option ℕ) × ReadsOnUnder meaning trip p q

-- a source was Pending at least this often
abbrev pub HasWaited : {S : Type 0} → (S → Meaning) → ℕ → Content S → Type 0
HasWaited meaning waits (content.Streamed s) = waits ≤ (meaning s).pended
HasWaited meaning waits _ = ⊤

abbrev pub is_done : Stage → Bool
is_done stage.Head = false
is_done stage.Body = false
is_done stage.Done = true

-- where a state stands: before the head nothing was given, and behind it what is left of the body completes what was given
abbrev pub InvariantAt : {S : Type 0} → (S → Meaning) → Stage → ResponseOf S → ResponseOf S → List Piece → Type 0
InvariantAt meaning stage.Head response begun given = (given ≡ []) × (response ≡ begun)
InvariantAt meaning stage.Body response begun given =
    (given ≢ []) × ((rest : List Piece) → SentBody meaning response.body rest → Sent meaning begun (given ++ rest))
InvariantAt meaning stage.Done response begun given = ⊤

-- what every state keeps
pub record IsSending {S : Type 0} (meaning : S → Meaning) (at : Stage) (response begun : ResponseOf S) (turns waits : ℕ)
    (given : List Piece) : Type 0 where
  pub read_on : ReadOn meaning begun response
  pub below : waits < turns
  pub waited : HasWaited meaning waits response.body.content
  pub chunk : 0 < response.body.chunk
  pub stands : InvariantAt meaning at response begun given

-- what has still to be given behind the head: nothing once the last answer was given, and until then what is left of the body
abbrev pub OwesBehindHead : {S : Type 0} → (S → Meaning) → Bool → BodyOf S → List Piece → Type 0
OwesBehindHead meaning true body pieces = pieces ≡ []
OwesBehindHead meaning false body pieces = SentBody meaning body pieces

-- the pieces that a state has still to give that gave a piece
abbrev pub Owes : {S : Type 0} → (S → Meaning) → Sending S → List Piece → Type 0
Owes meaning s pieces = OwesBehindHead meaning s.is_over s.response.body pieces

-- what was given so far is a front of a list that the response is sent as, and what is still owed is the rest of it;
-- something is owed always
pub record IsFront {S : Type 0} (meaning : S → Meaning) (s : Sending S) : Type 0 where
  pub completed : (rest : List Piece) → Owes meaning s rest → Sent meaning s.begun (s.given ++ rest)
  pub goes_on : (rest : List Piece) × Owes meaning s rest

abbrev pub IsHead : Piece → Type 0
IsHead (Head status headers) = ⊤
IsHead (Chunk bytes) = ⊥
IsHead End = ⊥

abbrev pub is_end : Piece → Bool
is_end (Head status headers) = false
is_end (Chunk bytes) = false
is_end End = true

-- how many bytes of the body are in a piece
abbrev pub bytes_in : Piece → ℕ
bytes_in (Head status headers) = 0
bytes_in (Chunk bytes) = length bytes
bytes_in End = 0

-- a piece of a body of bytes takes as many as it may hold
abbrev pub TakesFull : {S : Type 0} → BodyOf S → Piece → Type 0
TakesFull body (Head status headers) = ⊤
TakesFull body (Chunk bytes) = IsFull body.content body.chunk bytes
TakesFull body End = ⊤

-- a state gives a piece
pub record Gives {S : Type 0} (meaning : S → Meaning) (s : Sending S) (piece : Piece) (t : Sending S) : Type 0 where
  -- the head comes first, and once
  pub head : IsHead piece ↔ (s.given ≡ [])
  pub given : t.given ≡ s.given ++ piece ∷ []
  -- the end comes last
  pub over : t.is_over ≡ is_end piece
  -- a source gave as many bytes as are in the piece, told or not
  pub takes : Takes meaning s.response.body.content t.response.body.content (bytes_in piece)
  pub waits : t.waits ≡ 0

-- the source was Pending, once more in a row, and nothing was given
pub record Waits {S : Type 0} (meaning : S → Meaning) (s t : Sending S) : Type 0 where
  pub pending : StreamWaits meaning s.response.body.content t.response.body.content
  pub once_more : t.waits ≡ s.waits + 1
  pub below : t.waits < s.turns
  pub given : t.given ≡ s.given
  pub over : t.is_over ≡ s.is_over
  -- what completes the state now, completed it before
  pub left : (pieces : List Piece) → Owes meaning t pieces → Owes meaning s pieces
  pub takes : Takes meaning s.response.body.content t.response.body.content 0

-- a body has a source whose bound on Pendings is at least this
abbrev pub MayWait : {S : Type 0} → (S → Meaning) → ℕ → Content S → Type 0
MayWait meaning turns (content.Streamed s) = turns ≤ (meaning s).pendings
MayWait meaning turns _ = ⊥

-- the source was Pending, as often in a row as it may be
pub record Exhausts {S : Type 0} (meaning : S → Meaning) (s t : Sending S) : Type 0 where
  pub pending : StreamWaits meaning s.response.body.content t.response.body.content
  pub in_a_row : s.waits + 1 ≡ s.turns
  pub bound : MayWait meaning s.turns s.response.body.content

-- why a body is given up: its source refused with some error, or was Pending too often
abbrev pub GivesUp : {S : Type 0} → (S → Meaning) → Sending S → Sending S → Type 0
GivesUp meaning s t =
    ((e : SourceError) × StreamErrs meaning e s.response.body.content t.response.body.content) ⊎ Exhausts meaning s t

-- the source of the body was asked once, under this Gate with room for a chunk, and this was its answer: as many bytes
-- as the chunk has, none at the end, Pending, and of a fault of the body Pending or a refusal; for a head, a bad one
-- and want of memory it was not asked
abbrev pub PieceByGate : {S : Type 0} → Polled S → Gate → ℕ → Poll (Result Piece PieceError) → Content S → Content S → Type 0
PieceByGate polled gate room Pending c d = Asked polled gate room Pending c d
PieceByGate polled gate room (Ready (Ok (Head status headers))) c d = LeftAlone c d
PieceByGate polled gate room (Ready (Ok (Chunk bytes))) c d = Asked polled gate room (Ready (Ok (length bytes))) c d
PieceByGate polled gate room (Ready (Ok End)) c d = Asked polled gate room (Ready (Ok 0)) c d
PieceByGate polled gate room (Ready (Err error.BadHead)) c d = LeftAlone c d
PieceByGate polled gate room (Ready (Err error.BodyFault)) c d =
    Asked polled gate room Pending c d ⊎ ((e : SourceError) × Asked polled gate room (Ready (Err e)) c d)
PieceByGate polled gate room (Ready (Err error.NoMemory)) c d = LeftAlone c d

-- nothing more is given
abbrev pub Stops : {S : Type 0} → Sending S → Sending S → Type 0
Stops s t = (t.given ≡ s.given) × (t.is_over ≡ true)

-- what a poll answers
abbrev pub Answers : {S : Type 0} → (S → Meaning) → Sending S → Sending S → Poll (Result Piece PieceError) → Type 0
Answers meaning s t (Ready (Ok piece)) = Gives meaning s piece t × IsFront meaning t
Answers meaning s t (Ready (Err error.BadHead)) = (s.given ≡ []) × (has_head s.begun ≡ false) × Stops s t
Answers meaning s t (Ready (Err error.BodyFault)) = (s.given ≢ []) × GivesUp meaning s t × Stops s t
Answers meaning s t (Ready (Err error.NoMemory)) = (s.given ≡ [] → has_head s.begun ≡ true) × (t ≡ s)
Answers meaning s t Pending = (s.given ≢ []) × Waits meaning s t
