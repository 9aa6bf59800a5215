-- What becomes of a piece that is handed to a link which a trip may cut off.
use Rattle.std.specs.Prelude.{◌≡◌, ◌⊎◌, ℕ, true, [], ◌∷◌, Option, None, Some, Result, Ok, Err}
use Rattle.rkt_base.specs.declared.poll.Poll.{Poll}
use Rattle.rkt_base.specs.declared.poll.Poll.TheVariants.{Ready, Pending}
use Rattle.rkt_source.specs.Cancel.{Cancellable, advanced, is_open}
use Rattle.rkt_source.specs.declared.stage.Refused.{Refused}
use Rattle.rkt_source.specs.declared.stage.Stage.{Stage}
use Rattle.rkt_source.specs.declared.stage.Stage.TheVariants.{Mercy, Gone}
use Rattle.rkt_link.specs.Link.{LinkMeaning, AfterHand, ComesBack, Faults, with_taken}
use Rattle.rkt_link.specs.declared.link.Delivery.{Delivery}
use Rattle.rkt_message.specs.declared.piece.Piece.{Piece}
use Rattle.rkt_source.specs.declared.source.Gate.{Gate}
use Rattle.rkt_board.specs.declared.history.End.{End as Ending}
use Rattle.rkt_board.specs.declared.history.End.TheVariants.{Answered, Lost, Cut, Failed, Abandoned, Starved}
use Rattle.rkt_worker.specs.Gates.{Watched, IsCutOff, MayStand}

-- the grace was over at `cut`
abbrev pub IsPast : Stage → ℕ → ℕ → Type 0
IsPast stage saw cut = (stage ≡ Mercy saw cut) ⊎ (stage ≡ Gone saw cut)

module _ {K : Type 0} (links : K → LinkMeaning) where
  -- under this Gate the link was handed the piece, or it is past its grace, and nothing was sent
  abbrev pub HandsOver : Gate → Cancellable K → Piece → Cancellable K → Poll (Result Delivery Refused) → Type 0
  HandsOver gate old piece new (Ready (Ok handed)) =
      (is_open (advanced gate old.stage) ≡ true)
      × (new.stage ≡ advanced gate old.stage)
      × AfterHand handed (links old.io) piece (links new.io)
      × ComesBack handed piece
  HandsOver gate old piece new (Ready (Err refused)) =
      (saw : ℕ) × (cut : ℕ)
      × IsPast (advanced gate old.stage) saw cut
      × (new.stage ≡ Gone saw cut)
      × (links new.io ≡ links old.io)
  HandsOver gate old piece new Pending =
      (saw : ℕ) × (cut : ℕ)
      × (advanced gate old.stage ≡ Mercy saw cut)
      × (new.stage ≡ Mercy saw cut)
      × (links new.io ≡ links old.io)

  -- a link that was past its grace is shut, or not yet
  abbrev pub ShutsAs : ℕ → ℕ → Cancellable K → Cancellable K → Poll (Result (Unit {0}) Refused) → Type 0
  ShutsAs saw cut old new (Ready (Ok none)) = ⊥
  ShutsAs saw cut old new (Ready (Err refused)) = (new.stage ≡ Gone saw cut) × (links new.io ≡ links old.io)
  ShutsAs saw cut old new Pending = (new.stage ≡ Mercy saw cut) × (links new.io ≡ links old.io)

  -- the link has taken the piece; or it failed, or was cut off, or there was no memory for the piece, and the response ends so
  abbrev pub PutAs : Watched → Cancellable K → Piece → Cancellable K → Option Ending → Type 0
  PutAs watched old piece new None = (links new.io ≡ with_taken (links old.io) (piece ∷ [])) × MayStand watched new.stage
  PutAs watched old piece new (Some Lost) = Faults (links old.io) (links new.io)
  PutAs watched old piece new (Some (Cut saw cut)) = (links new.io ≡ links old.io) × IsCutOff watched new.stage (Cut saw cut)
  PutAs watched old piece new (Some Answered) = ⊥
  PutAs watched old piece new (Some (Failed failure)) = ⊥
  PutAs watched old piece new (Some Abandoned) = ⊥
  PutAs watched old piece new (Some Starved) = links new.io ≡ links old.io
