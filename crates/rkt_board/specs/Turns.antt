-- What an event adds to a board.
use Rattle.std.specs.Prelude.{◌≡◌, ◌<◌, ◌≤◌, ◌++◌, ◌⊎◌, ℕ, List, [], ◌∷◌, Bool, true, false, Option, Some, None, slice_get}
use Rattle.std.specs.List.{list_any}
use Rattle.std.specs.Option.{ForSome}
use Rattle.std.specs.declared.snapshot.Snapshot.{Snapshot}
use Rattle.rkt_source.specs.Cancel.{Cancellable}
use Rattle.rkt_source.specs.declared.stage.Stage.TheVariants.{Active}
use Rattle.rkt_link.specs.Asked.{Asked}
use Rattle.rkt_link.specs.Clock.{IsWithin}
use Rattle.rkt_link.specs.Link.{LinkMeaning, IsFreshLink}
use Rattle.rkt_board.specs.Events.{is_trip, is_down, is_close, admits, admits_by, admits_until, ends, trip_word}
use Rattle.rkt_board.specs.Records.{events, carries}
use Rattle.rkt_board.specs.declared.board.Stepped.{Stepped}
use Rattle.rkt_board.specs.declared.board.Stepped.TheVariants.{Given, Tripped, Again, Stop}
use Rattle.rkt_fairing.specs.declared.called.Called.{Called}
use Rattle.rkt_board.specs.declared.history.EntryOf.{EntryOf}
use Rattle.rkt_board.specs.declared.history.EventOf.{EventOf}
use Rattle.rkt_board.specs.declared.history.EventOf.TheVariants.{Trip, Admit, Down, Close}
use Rattle.rkt_board.specs.declared.log_record.RecordOf.{RecordOf}
use Rattle.rkt_source.specs.declared.source.Gate.{Gate}

-- the Gate of a moment, with these delays, and with the word of a trip where there is one
abbrev pub gate_with : ℕ → Option ℕ → ℕ → ℕ → Gate
gate_with moment tripped grace mercy = record { moment = moment; tripped = tripped; grace = grace; mercy = mercy }

-- a link is admitted only where a listener has neither ended nor failed
abbrev pub AdmitsAs : {K : Type 0} → Bool → Bool → Stepped K → Type 0
AdmitsAs over faulted (Given number moment link) = (over ≡ false) × (faulted ≡ false)
AdmitsAs over faulted Tripped = Unit {0}
AdmitsAs over faulted Again = Unit {0}
AdmitsAs over faulted Stop = Unit {0}

module _ {C S K : Type 0} where
  abbrev pub logged : ℕ → EventOf C S K → RecordOf C S K
  logged by event = record { by = by; event = event; link = None }

  abbrev pub admit_mark : ℕ → ℕ → ℕ → Snapshot K → RecordOf C S K
  admit_mark by number moment link = record { by = by; event = Admit number moment by; link = Some link }

  abbrev pub AddsOne : List (RecordOf C S K) → List (RecordOf C S K) → RecordOf C S K → Type 0
  AddsOne old new m = new ≡ old ++ m ∷ []

  -- a turn of a worker admits a link, enters a Trip, or adds nothing
  abbrev pub SteppedAs : ℕ → List (RecordOf C S K) → List (RecordOf C S K) → Stepped K → Type 0
  SteppedAs by old new (Given number moment link) =
      (copy : Snapshot K) × (copy.value ≡ link.io) × AddsOne old new (admit_mark by number moment copy)
  SteppedAs by old new Tripped = (word : ℕ) × (moment : ℕ) × AddsOne old new (logged by (Trip word moment))
  SteppedAs by old new Again = new ≡ old
  SteppedAs by old new Stop = new ≡ old

  -- a word that the handle has seen by now: nothing is admitted with one, and where a turn stops with one, the Trip stands
  abbrev pub StopsAs : ℕ → List (RecordOf C S K) → Stepped K → Type 0
  StopsAs seen new (Given number moment link) = seen ≡ 0
  StopsAs seen new Tripped = 0 < seen
  StopsAs seen new Again = seen ≡ 0
  StopsAs seen new Stop = 0 < seen → list_any is_close (events new) ≡ false → list_any is_trip (events new) ≡ true

  -- a Trip is entered, or nothing
  abbrev pub TripsAs : ℕ → List (RecordOf C S K) → List (RecordOf C S K) → Type 0
  TripsAs by old new = (new ≡ old) ⊎ ((word : ℕ) × (moment : ℕ) × AddsOne old new (logged by (Trip word moment)))

  -- a Down is entered, or nothing
  abbrev pub DownsAs : ℕ → List Called → List (RecordOf C S K) → List (RecordOf C S K) → Bool → Type 0
  DownsAs by calls old new true = AddsOne old new (logged by (Down calls))
  DownsAs by calls old new false = new ≡ old

  -- a Close is entered, or nothing
  abbrev pub ClosesAs : ℕ → List (RecordOf C S K) → List (RecordOf C S K) → Bool → Type 0
  ClosesAs by old new true = (moment : ℕ) × AddsOne old new (logged by (Close moment))
  ClosesAs by old new false = new ≡ old

  -- a Trip stands there, and neither a Down nor a Close
  pub record MayDown (records : List (RecordOf C S K)) : Type 0 where
    pub tripped : list_any is_trip (events records) ≡ true
    pub up : list_any is_down (events records) ≡ false
    pub unclosed : list_any is_close (events records) ≡ false

  -- no Close stands there, no number is open, and a Down stands where a Trip does
  pub record MayClose (records : List (RecordOf C S K)) : Type 0 where
    pub unclosed : list_any is_close (events records) ≡ false
    pub none_open : (k : ℕ) → list_any (admits k) (events records) ≡ list_any (ends k) (events records)
    pub down : list_any is_down (events records) ≡ list_any is_trip (events records)

  -- a run of this number, where there is one, is of a moment in the window, after that of its Admit and not after this one
  abbrev pub IsRunOf : Option (ℕ × ℕ) → List (EventOf C S K) → ℕ → EntryOf C S K → ℕ → Type 0
  IsRunOf window before number entry last = ForSome entry.run (λ run.
      (list_any (admits_until number run.moment) before ≡ true) × (run.moment ≤ last) × IsWithin window run.moment)

-- what is shown of the wire is the word of the Trip, where there is one
abbrev pub ShowsTrip : {C S K : Type 0} → Option ℕ → List (EventOf C S K) → Type 0
ShowsTrip None events = list_any is_trip events ≡ false
ShowsTrip (Some word) events = (list_any is_trip events ≡ true) × (trip_word events ≡ word)

module _ {C S K : Type 0} (links : K → LinkMeaning) where
  -- this worker has a number open, under which a link was given that asks this
  pub record IsOpen (records : List (RecordOf C S K)) (by number : ℕ) (ask : Option Asked) : Type 0 where
    pub admitted : list_any (admits_by number by) (events records) ≡ true
    pub unended : list_any (ends number) (events records) ≡ false
    pub asks : slice_get (carries links records) number ≡ Some ask

  -- what was open still is, under the same numbers, and since the same moments
  pub record StaysOpen (old new : List (RecordOf C S K)) : Type 0 where
    pub opened : (by number : ℕ) (ask : Option Asked) → IsOpen old by number ask → IsOpen new by number ask
    pub since : (number moment : ℕ)
        → list_any (admits_until number moment) (events old) ≡ true
        → list_any (admits_until number moment) (events new) ≡ true

  -- a link that is given is as nobody has used it, and nothing has cut it off; no Trip stands before it, and it is open from
  -- this moment on at the latest
  pub record IsGiven (records : List (RecordOf C S K)) (by number last : ℕ) (link : Cancellable K) : Type 0 where
    pub fresh : IsFreshLink (links link.io)
    pub active : link.stage ≡ Active
    pub untripped : list_any is_trip (events records) ≡ false
    pub opened : IsOpen records by number (links link.io).asked
    pub since : list_any (admits_until number last) (events records) ≡ true

  -- what a turn leaves to be done: an End of what was given, or the Down of a Trip
  abbrev pub GivesAs : List (RecordOf C S K) → ℕ → ℕ → Stepped K → Type 0
  GivesAs records by last (Given number moment link) = (moment ≡ last) × IsGiven records by number last link
  GivesAs records by last Tripped = MayDown records
  GivesAs records by last Again = Unit {0}
  GivesAs records by last Stop = Unit {0}
