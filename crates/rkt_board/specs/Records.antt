-- What a board keeps of its events, and which lists of it are legal.
use Rattle.std.specs.Prelude.{◌≡◌, ℕ, List, [], ◌∷◌, map, Option, Some, None, slice_get}
use Rattle.std.specs.List.{AllByRecursion}
use Rattle.std.specs.declared.snapshot.Snapshot.{Snapshot}
use Rattle.rkt_link.specs.Asked.{Asked}
use Rattle.rkt_link.specs.Link.{LinkMeaning}
use Rattle.rkt_board.specs.After.{AfterFrom}
use Rattle.rkt_board.specs.Events.{Ordered}
use Rattle.rkt_board.specs.declared.history.EventOf.{EventOf}
use Rattle.rkt_board.specs.declared.history.EventOf.TheVariants.{Lift, Trip, Admit, End, Down, Close}
use Rattle.rkt_board.specs.declared.log_record.RecordOf.{RecordOf}

-- what a link asks that is there
abbrev pub asked_by : {K : Type 0} → (K → LinkMeaning) → Option (Snapshot K) → Option Asked
asked_by links None = None
asked_by links (Some link) = (links link.value).asked

module _ {C S K : Type 0} where
  abbrev pub events : List (RecordOf C S K) → List (EventOf C S K)
  events records = map (λ m. m.event) records

  -- the worker that an Admit and an End name has entered it
  abbrev pub OwnAs : ℕ → EventOf C S K → Type 0
  OwnAs by (Admit number moment b) = b ≡ by
  OwnAs by (End number entry moment b) = b ≡ by
  OwnAs by (Lift calls) = Unit {0}
  OwnAs by (Trip word moment) = Unit {0}
  OwnAs by (Down calls) = Unit {0}
  OwnAs by (Close moment) = Unit {0}

  abbrev pub IsOwn : RecordOf C S K → Type 0
  IsOwn logged = OwnAs logged.by logged.event

module _ {C S K : Type 0} (links : K → LinkMeaning) where
  -- with what an Admit carries in front
  abbrev pub carried : EventOf C S K → Option Asked → List (Option Asked) → List (Option Asked)
  carried (Admit number moment by) ask rest = ask ∷ rest
  carried (Lift calls) ask rest = rest
  carried (Trip word moment) ask rest = rest
  carried (End number entry moment by) ask rest = rest
  carried (Down calls) ask rest = rest
  carried (Close moment) ask rest = rest

  -- what the links of the Admits ask, in order
  abbrev pub carries : List (RecordOf C S K) → List (Option Asked)
  carries [] = []
  carries (m ∷ ms) = carried m.event (asked_by links m.link) (carries ms)

  -- the link of an End asks what that of the Admit of its number asks
  abbrev pub AsksAs : List (RecordOf C S K) → EventOf C S K → Type 0
  AsksAs before (End number entry moment by) = slice_get (carries before) number ≡ Some (links entry.link.io).asked
  AsksAs before (Lift calls) = Unit {0}
  AsksAs before (Trip word moment) = Unit {0}
  AsksAs before (Admit number moment by) = Unit {0}
  AsksAs before (Down calls) = Unit {0}
  AsksAs before (Close moment) = Unit {0}

  abbrev pub AsksAt : List (RecordOf C S K) → RecordOf C S K → Type 0
  AsksAt before logged = AsksAs before logged.event

  -- records whose events are in order, each with its cause
  pub record Legal (cause : List (EventOf C S K) → EventOf C S K → Type 0) (records : List (RecordOf C S K)) : Type 0 where
    pub ordered : Ordered (events records)
    pub caused : AfterFrom cause [] (events records)
    pub own : AllByRecursion IsOwn records
    pub asks : AfterFrom AsksAt [] records
