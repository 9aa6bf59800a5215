-- What a link over a source and a sink keeps, what it means, and what a send of it writes.
use Rattle.std.specs.Prelude.{◌≡◌, ℕ, ◌<◌, List, [], ◌∷◌, Bool, true, IfSome, length, Option, Some, None, Result, Ok, Err}
use Rattle.std.proofs.Common.{ap, sym}
use Rattle.std.specs.Option.{option_map_or}
use Rattle.rkt_base.specs.declared.poll.Poll.{Poll}
use Rattle.rkt_base.specs.declared.poll.Poll.TheVariants.{Ready, Pending}
use Rattle.rkt_source.specs.Sink.{SinkMeaning, SinkWaits, SinkFaulted}
use Rattle.rkt_source.specs.Source.{Meaning}
use Rattle.rkt_message.specs.declared.piece.Piece.{Piece}
use Rattle.rkt_request.specs.declared.head.Head.{Head}
use Rattle.rkt_link.specs.Asked.{Asked, IsUntouched}
use Rattle.rkt_link.specs.Link.{LinkMeaning}
use Rattle.rkt_link.specs.declared.link.SendError.{SendError}
use Rattle.rkt_link.specs.declared.link.SendError.TheVariants.{Fault, NoMemory}
use Rattle.sample_link.specs.Encoding.{encoding}
use Rattle.sample_link.specs.Writing.{NoneLost}

pub record Streaming (S K : Type 0) : Type 0 where
  pub head : Head
  -- the source of the body, as it was given to the link
  pub given : S
  pub source_taken : Bool
  pub sink : K
  -- what the sink has not taken of the piece that is being written
  pub left : List ℕ
  pub faults : ℕ

-- what is asked over a source and a sink
abbrev pub asked_over : Head → Meaning → SinkMeaning → Asked
asked_over head source sink =
    record { head = head; body = source.whole; body_never_faults = source.never_faults; never_faults = sink.never_faults }

-- it tells what it asks, and not what it has taken
abbrev pub stream_meaning : {S K : Type 0} → (S → Meaning) → (K → SinkMeaning) → Streaming S K → LinkMeaning
stream_meaning source sink link = record {
  asked = Some (asked_over link.head (source link.given) (sink link.sink));
  source_taken = link.source_taken;
  held = None;
  faults = link.faults;
  never_faults = (sink link.sink).never_faults;
}

pub says_so : {S K : Type 0} (source : S → Meaning) (sink : K → SinkMeaning) (link : Streaming S K) (asked : Asked)
    → (stream_meaning source sink link).asked ≡ Some asked
    → asked.never_faults ≡ (stream_meaning source sink link).never_faults
says_so source sink link asked told = ap (λ (o : Option Asked). option_map_or (λ a. a.never_faults) o true) (sym told)

-- the source stands by, as it was given and untouched, until it is taken
pub record StandsBy {S : Type 0} (meaning : S → Meaning) (source : Option S) (given : S) : Type 0 where
  pub as_given : IfSome source (λ s. s ≡ given)
  pub untouched : IsUntouched (meaning given)

-- what a send has to write: what is left of a piece that is being written, else the piece
abbrev pub to_send : List ℕ → Piece → List ℕ
to_send [] piece = encoding piece
to_send (byte ∷ rest) piece = byte ∷ rest

-- when each error comes: a fault where the sink has failed
abbrev pub SendErrs : SendError → SinkMeaning → SinkMeaning → Type 0
SendErrs Fault old new = SinkFaulted old new
SendErrs NoMemory old new = Unit {0}

-- a send that was taken has written all; one that is Pending waits for the sink, and keeps the rest; after an error the rest
-- is let go
abbrev pub SendsBytes : {S K : Type 0} → (K → SinkMeaning) → Poll (Result (Unit {0}) SendError) → Streaming S K → Piece
    → Streaming S K → Type 0
SendsBytes meaning Pending old piece new =
    NoneLost (meaning old.sink) (to_send old.left piece) (meaning new.sink) new.left
    × (0 < length new.left)
    × SinkWaits (meaning old.sink) (meaning new.sink)
SendsBytes meaning (Ready (Ok taken)) old piece new =
    NoneLost (meaning old.sink) (to_send old.left piece) (meaning new.sink) [] × (new.left ≡ [])
SendsBytes meaning (Ready (Err e)) old piece new =
    (rest : List ℕ)
    × NoneLost (meaning old.sink) (to_send old.left piece) (meaning new.sink) rest
    × (new.left ≡ [])
    × SendErrs e (meaning old.sink) (meaning new.sink)
