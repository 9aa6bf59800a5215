-- What stands behind each event.
use Rattle.std.specs.Prelude.{◌≡◌, ◌<◌, ◌≤◌, ◌+◌, ◌⊎◌, ℕ, Bool, true, false, List, [], IsSome, IsTrue, Option, Some, None}
use Rattle.std.specs.List.{All}
use Rattle.std.specs.Option.{ForSome}
use Rattle.rkt_source.specs.Cancel.{cut_of, saw_of}
use Rattle.rkt_source.specs.declared.stage.Stage.TheVariants.{Active}
use Rattle.rkt_exchange.specs.Tables.{SeenTables, table_of}
use Rattle.rkt_exchange.specs.declared.ended.RunOf.{RunOf}
use Rattle.rkt_message.specs.Reading.{ReadsOn}
use Rattle.rkt_message.specs.Response.{ResponseOf}
use Rattle.rkt_message.specs.Sending.{ReadOn}
use Rattle.rkt_message.specs.declared.piece.Piece.{Piece}
use Rattle.rkt_routing.specs.Routed.{turns_of}
use Rattle.rkt_routing.specs.declared.run.Call.{Call}
use Rattle.rkt_board.specs.After.{AfterFrom}
use Rattle.rkt_board.specs.Events.{trip_of}
use Rattle.rkt_board.specs.Turns.{ShowsTrip}
use Rattle.rkt_fairing.specs.ShutsDown.{ShutsDown}
use Rattle.rkt_worker.specs.Gates.{word_in}
use Rattle.rkt_worker.specs.Lifecycle.{Lifecycle}
use Rattle.rkt_exchange.specs.View.{view_of}
use Rattle.rkt_worker.specs.Sent.{IsSentAs, fault_count}
use Rattle.rkt_worker.specs.Serving.{Launching, Serving, callbacks_of}
use Rattle.rkt_worker.specs.Waiting.{IsLate, MayBePending}
use Rattle.rkt_board.specs.declared.history.End.{End as Ending}
use Rattle.rkt_board.specs.declared.history.End.TheVariants.{Answered, Lost, Cut, Failed, Abandoned, Starved}
use Rattle.rkt_board.specs.declared.history.EntryOf.{EntryOf}
use Rattle.rkt_board.specs.declared.history.EventOf.{EventOf}
use Rattle.rkt_board.specs.declared.history.EventOf.TheVariants.{Lift, Trip, Admit, End, Down, Close}

module _ {V S C R F FTask GTask H HTask K KTask L N : Type 0} (served : Serving V S C R F FTask GTask H HTask K KTask L)
    (tables : SeenTables F H K N V) where
  -- a run and a response are kept, and the response was sent with this end, where the Trip before it, if there is one,
  -- has this word
  pub record Ran (seen : Option ℕ) (entry : EntryOf C R L) (ended : Ending) : Type 0 where
    pub run : RunOf C
    pub run_kept : entry.run ≡ Some run
    -- the response that the run led to
    pub first : ResponseOf R
    -- whether a Gate of its exchange may have shown a trip: only where there is one
    pub shown : Bool
    pub behind : IsTrue shown → IsSome seen
    -- the run is a lifecycle of what this very link asks, under such Gates
    pub lifecycle : ForSome (served.links entry.link.io).asked (λ asked.
        Lifecycle (callbacks_of served tables shown) tables served.sources asked run first)
    -- the same, but that its body may have been read
    pub response : ResponseOf R
    pub response_kept : entry.response ≡ Some response
    pub read_on : ReadOn served.streams first response
    -- a Gate with a trip was shown to the source of its body only where there is one
    pub reads : ReadsOn served.streams seen first.body.content response.body.content
    -- the pieces that were sent, which the link holds
    pub pieces : List Piece
    pub sent : IsSentAs served.streams (turns_of (table_of tables)) first response ended pieces
    pub held : ForSome (served.links entry.link.io).held (λ held. held ≡ pieces)
    -- it has failed once where the response was lost, and else never
    pub faults : (served.links entry.link.io).faults ≡ fault_count ended

  -- the kept link saw the Trip at this moment, and was cut off at that one, when the grace was over
  pub record WasCut (seen : Option ℕ) (entry : EntryOf C R L) (saw cut : ℕ) : Type 0 where
    pub tripped : IsSome seen
    pub saw_there : saw_of entry.link.stage ≡ Some saw
    pub cut_there : cut_of entry.link.stage ≡ Some cut
    pub grace : saw + tables.config.grace ≤ cut

  -- neither a run nor a response is kept, and the link holds nothing, where it tells that, has not failed and was not cut off
  pub record IsUnsent (entry : EntryOf C R L) : Type 0 where
    pub run : entry.run ≡ None
    pub response : entry.response ≡ None
    pub held : ForSome (served.links entry.link.io).held (λ held. held ≡ [])
    pub faults : (served.links entry.link.io).faults ≡ 0
    pub stage : entry.link.stage ≡ Active

  -- Answered, Lost, Cut and Failed: with a run and a response; Lost only on a link that does not say that it never
  -- fails, Cut only behind a Trip and its grace. Abandoned: nothing is kept or sent; only behind a Trip, where an
  -- exchange may be Pending. Starved: nothing is kept or sent, or there is a run, and its response was not sent to the
  -- end
  abbrev pub CausedAs : Option ℕ → EntryOf C R L → Ending → Type 0
  CausedAs seen entry Answered = Ran seen entry Answered
  CausedAs seen entry Lost = Ran seen entry Lost × ((served.links entry.link.io).never_faults ≡ false)
  CausedAs seen entry (Cut saw cut) = Ran seen entry (Cut saw cut) × WasCut seen entry saw cut
  CausedAs seen entry (Failed failure) = Ran seen entry (Failed failure)
  CausedAs seen entry Abandoned =
      IsSome seen × IsUnsent entry × MayBePending (callbacks_of served tables true) served.sources tables
  CausedAs seen entry Starved = IsUnsent entry ⊎ Ran seen entry Starved

  abbrev pub Caused : Option ℕ → EntryOf C R L → Type 0
  Caused seen entry = CausedAs seen entry entry.end

-- a link was cut off that had seen the Trip, which stands before, and it was so by this moment; an exchange was abandoned when
-- the grace and the mercy of that Trip were over
abbrev pub IsDueBehind : {C R L F H K N V : Type 0} → SeenTables F H K N V → List (EventOf C R L) → ℕ → Ending → Type 0
IsDueBehind tables before moment (Cut saw cut) = (trip : ℕ × ℕ) × (trip_of before ≡ Some trip) × (trip.1 ≤ saw) × (cut ≤ moment)
IsDueBehind tables before moment Abandoned = IsLate tables.config.grace tables.config.mercy (trip_of before) moment
IsDueBehind tables before moment Answered = Unit {0}
IsDueBehind tables before moment Lost = Unit {0}
IsDueBehind tables before moment (Failed failure) = Unit {0}
IsDueBehind tables before moment Starved = Unit {0}

-- a word that a call recorded is that of a Trip before
abbrev pub SawTrip : {C R L : Type 0} → List (EventOf C R L) → Call → Type 0
SawTrip before call = 0 < call.word → ShowsTrip (Some call.word) before

module _ {V S C R F FTask GTask STask H HTask K KTask N L : Type 0}
    (launch : Launching V S C R F FTask GTask STask H HTask K KTask N L) (tables : SeenTables F H K N V) where
  -- what stands behind an event that follows those before it: an End has its cause, behind the Trip of a word that its run saw,
  -- a Trip a word that is allowed, and a Down one call of each fairing that is called at a shutdown
  abbrev pub CauseAt : List (EventOf C R L) → EventOf C R L → Type 0
  CauseAt before (Lift calls) = Unit {0}
  CauseAt before (Trip word moment) = launch.allowed word
  CauseAt before (Admit number moment by) = Unit {0}
  CauseAt before (End number entry moment by) =
      Caused launch.serving tables (word_in (trip_of before)) entry × IsDueBehind tables before moment entry.end
      × ForSome entry.run (λ run. All (SawTrip before) run.calls)
  CauseAt before (Down calls) = ShutsDown launch.shuts (view_of tables) tables.fairings calls
  CauseAt before (Close moment) = Unit {0}

  abbrev pub AllCaused : List (EventOf C R L) → Type 0
  AllCaused events = AfterFrom CauseAt [] events
