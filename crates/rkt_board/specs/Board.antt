-- What holds of the state of a launch between any two of its events.
use Rattle.std.specs.Prelude.{◌≡◌, ◌<◌, ◌≤◌, ◌+◌, ◌++◌, ℕ, List, [], map, Bool, true, false, cond, Option, Some, None, length, vec_capacity}
use Rattle.std.specs.List.{list_any, AllByRecursion}
use Rattle.std.specs.Option.{ForSome}
use Rattle.rkt_turn.specs.Known.{last_number}
use Rattle.rkt_turn.specs.Shutdown.{Handle}
use Rattle.rkt_link.specs.Asked.{Asked}
use Rattle.rkt_link.specs.Clock.{ClockMeaning, IsWithin, TellsOn}
use Rattle.rkt_link.specs.Link.{LinkMeaning}
use Rattle.rkt_link.specs.Listener.{ListenerMeaning, Faulted, Settled}
use Rattle.rkt_board.specs.Events.{is_trip, is_down, is_close, admitted, ended_below, latest, lift_calls, trip_word}
use Rattle.rkt_board.specs.Records.{events, carries, Legal}
use Rattle.rkt_board.specs.declared.board.Board.{Board}
use Rattle.rkt_board.specs.declared.board.Log.{Log}
use Rattle.rkt_board.specs.declared.board.Initial.{Initial}
use Rattle.rkt_board.specs.declared.board.Outside.{Outside}
use Rattle.rkt_board.specs.declared.history.End.{End as Ending}
use Rattle.rkt_board.specs.declared.history.End.TheVariants.{Answered, Lost, Cut, Failed, Abandoned, Starved}
use Rattle.rkt_board.specs.declared.history.EventOf.{EventOf}
use Rattle.rkt_board.specs.declared.history.EventOf.TheVariants.{Lift, Trip, Admit, End, Down, Close}
use Rattle.rkt_board.specs.declared.log_record.RecordOf.{RecordOf}

-- where it is told what is given: it is what was given before, and then what the links ask
abbrev pub Told : Option (List Asked) → Option (List Asked) → List (Option Asked) → Type 0
Told None new asks = new ≡ None
Told (Some old) new asks = (more : List Asked) × (new ≡ Some (old ++ more)) × (map (λ asked. Some asked) more ≡ asks)

-- a listener that has failed since, or whose count stands as it was
abbrev pub SoundAs : Bool → ListenerMeaning → ListenerMeaning → Type 0
SoundAs true old new = Faulted old new
SoundAs false old new = new.faults ≡ old.faults

-- how many events can still come, but for Admits and their Ends: the Ends of those that are open, a Trip, a Down and a Close
abbrev pub left : ℕ → Bool → Bool → Bool → ℕ
left opens tripped down closed = opens + (cond tripped 0 1 + (cond down 0 1 + cond closed 0 1))

-- the moments at which a link was cut off lie in the window
abbrev pub IsCutWithin : Option (ℕ × ℕ) → Ending → Type 0
IsCutWithin window (Cut saw cut) = IsWithin window saw × IsWithin window cut
IsCutWithin window Answered = Unit {0}
IsCutWithin window Lost = Unit {0}
IsCutWithin window (Failed failure) = Unit {0}
IsCutWithin window Abandoned = Unit {0}
IsCutWithin window Starved = Unit {0}

-- the moments of an event, of its run and of how that ended lie in the window
abbrev pub TimedIn : {C S K : Type 0} → Option (ℕ × ℕ) → EventOf C S K → Type 0
TimedIn window (Lift calls) = Unit {0}
TimedIn window (Trip word moment) = IsWithin window moment
TimedIn window (Admit number moment by) = IsWithin window moment
TimedIn window (End number entry moment by) =
    IsWithin window moment × ForSome entry.run (λ run. IsWithin window run.moment) × IsCutWithin window entry.end
TimedIn window (Down calls) = Unit {0}
TimedIn window (Close moment) = IsWithin window moment

-- the numbers of a log count its records
pub record Counts {C S K : Type 0} (records : List (RecordOf C S K))
    (gave opens : ℕ) (tripped down closed : Bool) : Type 0 where
  pub gave_is : gave ≡ admitted (events records)
  -- those that are open are the others
  pub open_is : ended_below gave (events records) + opens ≡ gave
  pub tripped_is : tripped ≡ list_any is_trip (events records)
  pub down_is : down ≡ list_any is_down (events records)
  pub closed_is : closed ≡ list_any is_close (events records)

abbrev pub BookOf : Type 0 → Type 0 → Type 0 → Type 0
BookOf C S K = Log (RecordOf C S K) (EventOf C S K)

-- a log counts its records, and has room for the events that can still come; nothing stands yet where the history goes,
-- and there is as much room
pub record Counted {C S K : Type 0} (log : BookOf C S K) : Type 0 where
  pub counts : Counts log.records.items log.admitted log.opens log.tripped log.down log.closed
  pub room : length log.records.items + left log.opens log.tripped log.down log.closed ≤ vec_capacity log.records
  pub unused : log.history.items ≡ []
  pub history_room : length log.records.items + left log.opens log.tripped log.down log.closed ≤ vec_capacity log.history

-- a log without an event, with room for a Lift, a Trip, a Down and a Close
pub record IsBlank {M E : Type 0} (log : Log M E) : Type 0 where
  pub none : log.records.items ≡ []
  pub unused : log.history.items ≡ []
  pub none_given : log.admitted ≡ 0
  pub none_open : log.opens ≡ 0
  pub untripped : log.tripped ≡ false
  pub up : log.down ≡ false
  pub unclosed : log.closed ≡ false
  pub room : 4 ≤ vec_capacity log.records
  pub history_room : 4 ≤ vec_capacity log.history

-- the same log, with no less room
pub record SameBook {M E : Type 0} (old new : Log M E) : Type 0 where
  pub records : new.records.items ≡ old.records.items
  pub history : new.history.items ≡ old.history.items
  pub given : new.admitted ≡ old.admitted
  pub opens : new.opens ≡ old.opens
  pub tripped : new.tripped ≡ old.tripped
  pub down : new.down ≡ old.down
  pub closed : new.closed ≡ old.closed
  pub room : vec_capacity old.records ≤ vec_capacity new.records
  pub history_room : vec_capacity old.history ≤ vec_capacity new.history

-- it is of a worker below the last number, which a lock may give to several
abbrev pub IsNumbered : {C S K : Type 0} → RecordOf C S K → Type 0
IsNumbered logged = logged.by < last_number

-- the state of a launch, as contracts see it: A is the application, P what is served of it, L the listener, and Q the clock
abbrev pub BoardAs : Type 0 → Type 0 → Type 0 → Type 0 → Type 0 → Type 0 → Type 0 → Type 0
BoardAs A C S K P L Q = Board (Initial A P L Q Handle) (BookOf C S K) (Outside L Q Handle)

-- the events of a board, in order
abbrev pub list_of : {A C S K P L Q : Type 0} → BoardAs A C S K P L Q → List (EventOf C S K)
list_of board = events board.log.records.items

module _ {A C S K P L Q : Type 0} (links : K → LinkMeaning) (listeners : L → ListenerMeaning) (clocks : Q → ClockMeaning) where
  -- the listener, the clock and the handle against what was handed in, with what was entered meanwhile
  pub record Holds (name : Initial A P L Q Handle) (outside : Outside L Q Handle)
      (records : List (RecordOf C S K)) : Type 0 where
    pub wire : outside.handle.wire ≡ name.handle.value.wire
    pub word : list_any is_trip (events records) ≡ true → outside.handle.seen ≡ trip_word (events records)
    -- it was looked at the wire before each Admit
    pub looked : name.handle.value.looked + admitted (events records) ≤ outside.handle.looked
    -- a handle that had seen a word still has, and then nothing was admitted
    pub still : 0 < name.handle.value.seen → (outside.handle.seen ≡ name.handle.value.seen) × (admitted (events records) ≡ 0)
    pub told : Told (listeners name.listener.value).given (listeners outside.listener).given (carries links records)
    pub settled : Settled (listeners name.listener.value) (listeners outside.listener)
    pub sound : SoundAs outside.faulted (listeners name.listener.value) (listeners outside.listener)
    pub ended : outside.over ≡ true → (listeners outside.listener).ended ≡ true
    pub goes_on : outside.over ≡ false → (listeners outside.listener).ended ≡ (listeners name.listener.value).ended
    pub offers : outside.over ≡ true
        → ForSome (listeners name.listener.value).offers (λ all. (listeners outside.listener).given ≡ Some all)
    pub clock : TellsOn (clocks name.clock.value) (clocks outside.clock)
    pub timed : AllByRecursion (TimedIn (clocks name.clock.value).window) (events records)
    pub latest_by : latest (events records) ≤ (clocks outside.clock).last

  -- what stands behind each event is what is served says under the window of the clock
  pub record Keeps (cause : P → Option (ℕ × ℕ) → List (EventOf C S K) → EventOf C S K → Type 0)
      (board : BoardAs A C S K P L Q) : Type 0 where
    pub begun : 0 < length board.log.records.items
    -- the Lift stands first, with the calls at liftoff
    pub lifted : lift_calls (list_of board) ≡ board.name.calls.value
    pub holds : Holds board.name board.outside board.log.records.items
    pub counted : Counted board.log
    pub legal : Legal links (cause board.name.served (clocks board.name.clock.value).window) board.log.records.items

  -- while workers serve, neither a Down nor a Close stands there, and each record is of a worker with a number of its own
  pub record IsServing (cause : P → Option (ℕ × ℕ) → List (EventOf C S K) → EventOf C S K → Type 0)
      (board : BoardAs A C S K P L Q) : Type 0 where
    pub keeps : Keeps cause board
    pub up : list_any is_down (list_of board) ≡ false
    pub unclosed : list_any is_close (list_of board) ≡ false
    pub numbered : AllByRecursion IsNumbered board.log.records.items
