-- The board of a launch as what gives the Gates under which responses are sent.
use Rattle.std.specs.Prelude.{◌≡◌, ◌++◌, ℕ, List, false, Option}
use Rattle.std.specs.List.{AllByRecursion, list_any}
use Rattle.rkt_link.specs.Clock.{ClockMeaning, TellsOn}
use Rattle.rkt_link.specs.Link.{LinkMeaning}
use Rattle.rkt_link.specs.Listener.{ListenerMeaning}
use Rattle.rkt_exchange.specs.Tables.{SeenTables}
use Rattle.rkt_board.specs.Board.{BoardAs, Keeps}
use Rattle.rkt_board.specs.Events.{is_close, trip_of}
use Rattle.rkt_board.specs.Records.{events}
use Rattle.rkt_board.specs.Turns.{logged}
use Rattle.rkt_board.specs.declared.history.EventOf.{EventOf}
use Rattle.rkt_board.specs.declared.history.EventOf.TheVariants.{Trip}
use Rattle.rkt_board.specs.declared.log_record.RecordOf.{RecordOf}
use Rattle.rkt_worker.specs.Gates.{Watched}
use Rattle.rkt_worker.specs.declared.causes.Lent.{Lent}

-- a Trip that the caller has entered
abbrev pub IsCallersTrip : {C R K : Type 0} → RecordOf C R K → Type 0
IsCallersTrip m = (word : ℕ) × (moment : ℕ) × (m ≡ logged 0 (Trip word moment))

-- the same records, and Trips of the caller behind them
abbrev pub AddsTrips : {C R K : Type 0} → List (RecordOf C R K) → List (RecordOf C R K) → Type 0
AddsTrips {C} {R} {K} old new = (more : List (RecordOf C R K)) × (new ≡ old ++ more) × AllByRecursion IsCallersTrip more

module _ {A C R K P L Q : Type 0} (clocks : Q → ClockMeaning) where
  -- a board that was looked at
  pub record LooksOn (old new : BoardAs A C R K P L Q) : Type 0 where
    pub name : new.name ≡ old.name
    pub adds : AddsTrips old.log.records.items new.log.records.items
    pub clock : TellsOn (clocks old.outside.clock) (clocks new.outside.clock)

module _ {A C R K P L Q : Type 0} (links : K → LinkMeaning) (listeners : L → ListenerMeaning) (clocks : Q → ClockMeaning)
    (cause : P → Option (ℕ × ℕ) → List (EventOf C R K) → EventOf C R K → Type 0) where
  -- a board that may be looked at
  pub record MayLook (board : BoardAs A C R K P L Q) : Type 0 where
    pub keeps : Keeps links listeners clocks cause board
    pub unclosed : list_any is_close (events board.log.records.items) ≡ false

-- what a board watches: the clock, the Trip, and the delays of the tables that are served
abbrev pub watched_by : {C R K A F H Y N V L Q : Type 0}
    → (Q → ClockMeaning)
    → BoardAs A C R K (Lent A (SeenTables F H Y N V)) L Q
    → Watched
watched_by clocks board = record {
  last = (clocks board.outside.clock).last;
  window = (clocks board.outside.clock).window;
  grace = board.name.served.grace;
  mercy = board.name.served.mercy;
  trip = trip_of (events board.log.records.items);
}
