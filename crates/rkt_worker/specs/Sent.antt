-- How the sending of a response ended.
use Rattle.std.specs.Prelude.{◌≡◌, ◌≢◌, ◌⊎◌, ◌++◌, ℕ, false, List, []}
use Rattle.rkt_link.specs.Link.{LinkMeaning, Faults, with_taken}
use Rattle.rkt_source.specs.Source.{Meaning}
use Rattle.rkt_source.specs.declared.source.SourceError.{SourceError}
use Rattle.rkt_message.specs.Reading.{StreamErrs}
use Rattle.rkt_message.specs.Response.{ResponseOf}
use Rattle.rkt_message.specs.Sending.{MayWait}
use Rattle.rkt_message.specs.Sent.{Sent, has_head}
use Rattle.rkt_message.specs.declared.piece.Piece.{Piece}
use Rattle.rkt_board.specs.declared.history.End.{End as Ending}
use Rattle.rkt_board.specs.declared.history.End.TheVariants.{Answered, Lost, Cut, Failed, Abandoned, Starved}
use Rattle.rkt_board.specs.declared.history.Failure.TheVariants.{BadHead, BodyFault}

-- the pieces are such ones without the last or more of them
abbrev pub IsProperFront : (List Piece → Type 0) → List Piece → Type 0
IsProperFront Whole pieces = (rest : List Piece) × (rest ≢ []) × Whole (pieces ++ rest)

-- why the body of a response failed that was `first` and is `last` now: its source refused, or may be Pending so often
abbrev pub BodyFails : {S : Type 0} → (S → Meaning) → ℕ → ResponseOf S → ResponseOf S → Type 0
BodyFails stream turns first last =
    ((e : SourceError) × StreamErrs stream e first.body.content last.body.content) ⊎ MayWait stream turns first.body.content

-- a response that was `first` and is `last` now was sent as these pieces, and that ended so; a body fails only once the
-- head was sent, and where there was no memory to go on, nothing was sent or a part
abbrev pub IsSentAs : {S : Type 0} → (S → Meaning) → ℕ → ResponseOf S → ResponseOf S → Ending → List Piece → Type 0
IsSentAs stream turns first last Answered pieces = Sent stream first pieces
IsSentAs stream turns first last Lost pieces = IsProperFront (Sent stream first) pieces
IsSentAs stream turns first last (Cut saw cut) pieces = IsProperFront (Sent stream first) pieces
IsSentAs stream turns first last (Failed BadHead) pieces = (has_head first ≡ false) × (pieces ≡ [])
IsSentAs stream turns first last (Failed BodyFault) pieces =
    BodyFails stream turns first last × IsProperFront (Sent stream first) pieces × (pieces ≢ [])
IsSentAs stream turns first last Abandoned pieces = ⊥
IsSentAs stream turns first last Starved pieces = (pieces ≡ []) ⊎ IsProperFront (Sent stream first) pieces

-- how often a link has failed that was served so: once where the response was lost
abbrev pub fault_count : Ending → ℕ
fault_count Answered = 0
fault_count Lost = 1
fault_count (Cut saw cut) = 0
fault_count (Failed failure) = 0
fault_count Abandoned = 0
fault_count Starved = 0

-- how a link is left that took these pieces: where the response was lost, it has failed behind them
abbrev pub LeftBy : Ending → LinkMeaning → List Piece → LinkMeaning → Type 0
LeftBy Answered old pieces new = new ≡ with_taken old pieces
LeftBy Lost old pieces new = Faults (with_taken old pieces) new
LeftBy (Cut saw cut) old pieces new = new ≡ with_taken old pieces
LeftBy (Failed failure) old pieces new = new ≡ with_taken old pieces
LeftBy Abandoned old pieces new = new ≡ with_taken old pieces
LeftBy Starved old pieces new = new ≡ with_taken old pieces
