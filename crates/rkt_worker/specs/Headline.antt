-- What a launch promises of its history.
use Rattle.std.specs.Prelude.{◌≡◌, ◌<◌, ◌⊎◌, ℕ, true, false, List, IsSome, Option, Some, slice_get}
use Rattle.std.specs.List.{AllByRecursion, list_any}
use Rattle.std.specs.Option.{ForSome}
use Rattle.rkt_exchange.specs.Tables.{SeenTables}
use Rattle.rkt_link.specs.Asked.{Asked}
use Rattle.rkt_worker.specs.Causes.{Caused, AllCaused}
use Rattle.rkt_link.specs.Listener.{ListenerMeaning}
use Rattle.rkt_board.specs.Board.{TimedIn}
use Rattle.rkt_board.specs.Closed.{AllAdmitted}
use Rattle.rkt_board.specs.Events.{is_trip, admitted, end_of, Ordered, IsClosed, EachEndsOnce}
use Rattle.rkt_worker.specs.Serving.{Launching, Serving}
use Rattle.rkt_board.specs.declared.history.EntryOf.{EntryOf}
use Rattle.rkt_board.specs.declared.history.EventOf.{EventOf}
use Rattle.rkt_board.specs.declared.history.EventOf.TheVariants.{Lift, Trip, Admit, End, Down, Close}

module _ {C R L : Type 0} where
  -- the listener has ended, or a word was seen on the wire
  abbrev pub IsOver : ListenerMeaning → List (EventOf C R L) → Type 0
  IsOver listener events = (listener.ended ≡ true) ⊎ (list_any is_trip events ≡ true)

  -- it has not ended, and no word was seen
  abbrev pub GoesOn : ListenerMeaning → List (EventOf C R L) → Type 0
  GoesOn listener events = (listener.ended ≡ false) × (list_any is_trip events ≡ false)

  -- the moments of all events and of their runs lie in the window
  abbrev pub AllTimed : Option (ℕ × ℕ) → List (EventOf C R L) → Type 0
  AllTimed window events = AllByRecursion (TimedIn window) events

  -- the caller has entered an event, as the worker with the number 0
  abbrev pub IsCallers : EventOf C R L → Type 0
  IsCallers (Lift calls) = Unit {0}
  IsCallers (Trip word moment) = Unit {0}
  IsCallers (Admit number moment by) = by ≡ 0
  IsCallers (End number entry moment by) = by ≡ 0
  IsCallers (Down calls) = Unit {0}
  IsCallers (Close moment) = Unit {0}

module _ {V S C R F FTask GTask H HTask K KTask L N : Type 0} (served : Serving V S C R F FTask GTask H HTask K KTask L)
    (tables : SeenTables F H K N V) where
  -- the number k has an entry with its cause, and its link asks what was given as the k-th
  pub record HasEntry (given : Option (List Asked)) (events : List (EventOf C R L)) (k : ℕ) : Type 0 where
    pub entry : EntryOf C R L
    pub found : end_of k events ≡ Some entry
    -- the word of the Trip before its End, if there is one
    pub seen : Option ℕ
    pub tripped : IsSome seen → list_any is_trip events ≡ true
    pub caused : Caused served tables seen entry
    pub asks : ForSome given (λ asks. (served.links entry.link.io).asked ≡ slice_get asks k)

  -- each number that was admitted has its entry
  abbrev pub HasEntries : Option (List Asked) → List (EventOf C R L) → Type 0
  HasEntries given events = (k : ℕ) → k < admitted events → HasEntry given events k

module _ {V S C R F FTask GTask STask H HTask K KTask N L : Type 0}
    (launch : Launching V S C R F FTask GTask STask H HTask K KTask N L) (tables : SeenTables F H K N V) where
  -- a history that is legal and closed, with what the listener has given
  pub record IsLegal (given : Option (List Asked)) (events : List (EventOf C R L)) : Type 0 where
    pub ordered : Ordered events
    pub closed : IsClosed events
    pub caused : AllCaused launch tables events
    pub once : EachEndsOnce events
    pub entries : HasEntries launch.serving tables given events
    pub all_admitted : AllAdmitted given events
    pub timed : AllTimed launch.serving.window events
    pub callers : AllByRecursion IsCallers events
