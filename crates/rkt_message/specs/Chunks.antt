-- How a chunk of a body is read.
use Rattle.std.specs.Option.{ForSome}
use Rattle.std.specs.Prelude.{◌≡◌, ⊤, ◌<◌, ◌≤◌, ◌++◌, ℕ, List, [], length, min, Some, Result, Ok, Err}
use Rattle.rkt_base.specs.declared.poll.Poll.{Poll}
use Rattle.rkt_base.specs.declared.poll.Poll.TheVariants.{Ready, Pending}
use Rattle.rkt_source.specs.Source.{Meaning}
use Rattle.rkt_source.specs.declared.source.SourceError.{SourceError}
use Rattle.rkt_message.specs.Body.{BodyOf, left_of}
use Rattle.rkt_message.specs.Reading.{StreamErrs, StreamWaits, Takes}
use Rattle.rkt_message.specs.Sent.{IsChunk, IsFull}
use Rattle.rkt_message.specs.declared.content.Content.{Content}
use Rattle.rkt_message.specs.declared.content.Content.TheVariants as content
use Rattle.rkt_message.specs.declared.chunk.ChunkRead.{ChunkRead}
use Rattle.rkt_message.specs.declared.chunk.ChunkRead.TheVariants as chunk_read

-- nothing is left of a body, where that is told
abbrev pub IsAtEnd : {S : Type 0} → (S → Meaning) → BodyOf S → Type 0
IsAtEnd meaning body = ForSome (left_of meaning body.content) (λ left. left ≡ [])

-- there is room for all bytes of a body, as far as a chunk may hold them, and for as many of a source as a chunk may hold
abbrev pub FillsRoom : {S : Type 0} → Content S → ℕ → ℕ → Type 0
FillsRoom (content.Sized rest size) most room = room ≡ min (length rest) most
FillsRoom (content.Streamed s) most room = (0 < room) × (room ≡ most)
FillsRoom _ most room = ⊤

-- this much room is no more than a chunk may hold, and there is none only where nothing is left
pub record IsRoom {S : Type 0} (meaning : S → Meaning) (body : BodyOf S) (room : ℕ) : Type 0 where
  pub within : room ≤ body.chunk
  pub none : room ≡ 0 → IsAtEnd meaning body
  pub fills : FillsRoom body.content body.chunk room

-- these are the next bytes of a body, where they are told
abbrev pub IsNext : {S : Type 0} → (S → Meaning) → BodyOf S → BodyOf S → List ℕ → Type 0
IsNext meaning a b bytes = ForSome (left_of meaning a.content) (λ left.
    (rest : List ℕ) × (left ≡ bytes ++ rest) × (left_of meaning b.content ≡ Some rest))

-- what a read into room for a chunk came to
abbrev pub ReadsChunk : {S : Type 0} → (S → Meaning) → BodyOf S → BodyOf S → ChunkRead → Type 0
ReadsChunk meaning a b (chunk_read.Bytes bytes) =
    IsChunk a.chunk bytes
    × IsNext meaning a b bytes
    × Takes meaning a.content b.content (length bytes)
    × IsFull a.content a.chunk bytes
ReadsChunk meaning a b chunk_read.End = IsAtEnd meaning a × Takes meaning a.content b.content 0
ReadsChunk meaning a b chunk_read.Waiting =
    StreamWaits meaning a.content b.content
    × (left_of meaning b.content ≡ left_of meaning a.content)
    × Takes meaning a.content b.content 0
ReadsChunk meaning a b (chunk_read.Refused e) = StreamErrs meaning e a.content b.content

-- what the read was answered then
abbrev pub chunk_answer : ChunkRead → Poll (Result ℕ SourceError)
chunk_answer (chunk_read.Bytes bytes) = Ready (Ok (length bytes))
chunk_answer chunk_read.End = Ready (Ok 0)
chunk_answer chunk_read.Waiting = Pending
chunk_answer (chunk_read.Refused e) = Ready (Err e)
