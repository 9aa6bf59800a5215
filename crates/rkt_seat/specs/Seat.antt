-- What a worker knows of a board that it shares, between two turns.
use Rattle.std.specs.Prelude.{◌≡◌, ◌<◌, ◌≤◌, ℕ, true, false, Option, Some, slice_get}
use Rattle.std.specs.List.{list_any}
use Rattle.std.specs.Option.{ForSome}
use Rattle.std.specs.declared.snapshot.Snapshot.{Snapshot}
use Rattle.rkt_turn.specs.Booked.{StartsWith}
use Rattle.rkt_turn.specs.Known.{SamePlace, last_number}
use Rattle.rkt_turn.specs.Pass.{known, IsIdle, IsPassOf}
use Rattle.rkt_turn.specs.Shutdown.{Handle}
use Rattle.rkt_turn.specs.declared.known.Known.{Known}
use Rattle.rkt_turn.specs.declared.pass.PassOf.{PassOf}
use Rattle.rkt_turn.specs.declared.turnstile.Turnstile.{Turnstile}
use Rattle.rkt_source.specs.Cancel.{Cancellable}
use Rattle.rkt_source.specs.declared.source.Gate.{Gate}
use Rattle.rkt_source.specs.declared.stage.Stage.TheVariants.{Active}
use Rattle.rkt_link.specs.Asked.{Asked}
use Rattle.rkt_link.specs.Clock.{ClockMeaning, IsWithin}
use Rattle.rkt_link.specs.Link.{LinkMeaning, IsFreshLink}
use Rattle.rkt_board.specs.Events.{is_trip, admits_by, admits_until, ends, latest, trip_of}
use Rattle.rkt_board.specs.Records.{events, carries}
use Rattle.rkt_board.specs.Turns.{ShowsTrip}
use Rattle.rkt_board.specs.declared.board.Initial.{Initial}
use Rattle.rkt_board.specs.declared.board.Stepped.{Stepped}
use Rattle.rkt_board.specs.declared.board.Stepped.TheVariants.{Given, Tripped, Again, Stop}
use Rattle.rkt_board.specs.declared.log_record.RecordOf.{RecordOf}

module _ {S N E : Type 0} where
  -- a pass that may take a turn, with a number of its own
  abbrev pub IsSeat : Turnstile S N E → PassOf S N E → Type 0
  IsSeat lock pass = IsPassOf lock pass × IsIdle pass × ((known pass).number < last_number)

  -- what every turn leaves: a pass that may take the next one, with the same name and number, which has seen more
  pub record TookTurn (lock : Turnstile S N E) (old new : PassOf S N E) : Type 0 where
    pub seat : IsSeat lock new
    pub place : SamePlace (known old) (known new)
    pub seen : StartsWith (known new).seen (known old).seen

-- the window of the clock that was handed in
abbrev pub window_at : {A P L Q : Type 0} → (Q → ClockMeaning) → Snapshot (Initial A P L Q Handle) → Option (ℕ × ℕ)
window_at clocks name = (clocks name.value.clock.value).window

module _ {N C S K : Type 0} (links : K → LinkMeaning) where
  -- it has admitted this number, under which a link was given that asks this, and has not entered its End
  pub record HasOpen (v : Known N (RecordOf C S K)) (number : ℕ) (ask : Option Asked) : Type 0 where
    pub admitted : list_any (admits_by number v.number) (events v.seen) ≡ true
    pub unended : list_any (ends number) (events v.mine) ≡ false
    pub asks : slice_get (carries links v.seen) number ≡ Some ask

module _ {A P L Q C S K : Type 0} (links : K → LinkMeaning) (clocks : Q → ClockMeaning) where
  -- a link that was given just now is as nobody has used it, and nothing has cut it off; no Trip stands before it, and it is
  -- open since this moment
  pub record IsGivenTo (v : Known (Snapshot (Initial A P L Q Handle)) (RecordOf C S K)) (number moment : ℕ)
      (link : Cancellable K) : Type 0 where
    pub fresh : IsFreshLink (links link.io)
    pub active : link.stage ≡ Active
    pub untripped : list_any is_trip (events v.seen) ≡ false
    pub opened : HasOpen links v number (links link.io).asked
    pub since : list_any (admits_until number moment) (events v.seen) ≡ true
    pub within : ForSome v.name (λ name. IsWithin (window_at clocks name) moment)

  abbrev pub GivesTo : Known (Snapshot (Initial A P L Q Handle)) (RecordOf C S K) → Stepped K → Type 0
  GivesTo v (Given number moment link) = IsGivenTo v number moment link
  GivesTo v Tripped = Unit {0}
  GivesTo v Again = Unit {0}
  GivesTo v Stop = Unit {0}

module _ {A P L Q C S K : Type 0} (clocks : Q → ClockMeaning) where
  -- a Gate of a moment that no event has passed by then, which shows the word of the Trip that stands, if there is one
  pub record IsLookOf (v : Known (Snapshot (Initial A P L Q Handle)) (RecordOf C S K)) (gate : Gate)
      (trip : Option (ℕ × ℕ)) : Type 0 where
    pub within : ForSome v.name (λ name. IsWithin (window_at clocks name) gate.moment)
    pub late : latest (events v.seen) ≤ gate.moment
    pub word : ShowsTrip gate.tripped (events v.seen)
    pub trip_is : trip ≡ trip_of (events v.seen)
