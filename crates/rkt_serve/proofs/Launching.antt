-- What is launched, as a closed board leaves it.
use Rattle.std.proofs.Common.{inl, inr, ◌≡◌, ◌<◌, ◌⊎◌, ◌∙◌, ℕ, Bool, List, Option, None, Some, Result, Ok, Err, true, false, refl, sym, ap, subst, arith}
use Rattle.std.specs.Prelude.{IfOk, IfSome}
use Rattle.std.specs.List.{list_any}
use Rattle.std.specs.Option.{ForSome}
use Rattle.rkt_exchange.specs.Tables.{SeenTables}
use Rattle.rkt_life.specs.Rocket.{SeenRocket}
use Rattle.rkt_link.specs.Asked.{Asked}
use Rattle.rkt_link.specs.Clock.{ClockMeaning, TellsOn}
use Rattle.rkt_link.specs.Listener.{ListenerMeaning, Settled}
use Rattle.rkt_turn.specs.HandsBack.{HandsBack}
use Rattle.rkt_turn.specs.Shutdown.{Handle}
use Rattle.rkt_board.specs.Board.{SoundAs}
use Rattle.rkt_board.specs.Events.{is_abandoned, is_trip, admitted, trip_of}
use Rattle.rkt_board.specs.declared.closing.ClosedOf.{ClosedOf}
use Rattle.rkt_board.specs.declared.history.HistoryOf.{HistoryOf}
use Rattle.rkt_worker.proofs.Abandoned.{may_abandon}
use Rattle.rkt_turn.specs.HandsBackLaws.{hands_back_more}
use Rattle.rkt_worker.specs.Causes.{AllCaused}
use Rattle.rkt_worker.specs.Headline.{AllTimed, GoesOn, IsLegal, IsOver}
use Rattle.rkt_ignition.specs.declared.error.IgniteError.{IgniteError}
use Rattle.rkt_serve.specs.Kept.{GivesBack, IfUnlit, IsLit}
use Rattle.rkt_serve.specs.declared.error.ErrorKindOf.{ErrorKindOf}
use Rattle.rkt_serve.specs.declared.error.ErrorKindOf.TheVariants.{Ignition, Shutdown, NoMemory}
use Rattle.rkt_serve.specs.Left.{IsLeft}
use Rattle.rkt_worker.specs.Serving.{Launching}
use Rattle.rkt_worker.specs.Waiting.{MayAbandon}
use Rattle.rkt_serve.specs.declared.error.LaunchedOf.{LaunchedOf}

module _ {V S C R F FTask GTask STask H HTask K KTask N L X Q : Type 0} (launch : Launching V S C R F FTask GTask STask H HTask K KTask N L) (listeners : X → ListenerMeaning) (tables : SeenTables F H K N V)
    (table : List (List ℕ × List ℕ)) (closed : ClosedOf X Q Handle (HistoryOf C R L)) where
  abbrev IsMade : LaunchedOf (SeenRocket F H K N V) X Q (HistoryOf C R L) → Type 0
  IsMade launched = IsLeft tables table closed launched

  pub left_legal : (launched : LaunchedOf (SeenRocket F H K N V) X Q (HistoryOf C R L)) → IsMade launched → IsLegal launch tables (listeners closed.listener).given closed.history.events
      → IsLegal launch launched.rocket.tables (listeners launched.listener).given launched.history.events
  left_legal launched is legal = rw (is.tables_are, is.listener, is.history) legal

-- the same, of a board whose handle had not come back
pub left_back : {F H K N V X Q R : Type 0} (tables : SeenTables F H K N V) (table : List (List ℕ × List ℕ)) (closed : ClosedOf X Q Handle R) (handle : Handle) (launched : LaunchedOf (SeenRocket F H K N V) X Q R) → HandsBack closed.handle handle
    → IsLeft tables table (record { listener = closed.listener; clock = closed.clock; handle = handle; over = closed.over; faulted = closed.faulted; history = closed.history }) launched → IsLeft tables table closed launched
left_back tables table closed handle launched back is = record {
  tables_are = is.tables_are;
  table_is = is.table_is;
  handle = hands_back_more closed.handle handle launched.rocket.handle back is.handle;
  listener = is.listener;
  clock = is.clock;
  history = is.history;
}

module _ {F H K N V X Q C R L : Type 0} (tables : SeenTables F H K N V) (table : List (List ℕ × List ℕ)) (closed : ClosedOf X Q Handle (HistoryOf C R L)) (launched : LaunchedOf (SeenRocket F H K N V) X Q (HistoryOf C R L)) (is : IsLeft tables table closed launched) where
  -- the word of a Trip, where there is one, is above 0
  pub left_word : ((trip : ℕ × ℕ) → trip_of closed.history.events ≡ Some trip → 0 < trip.0) → ForSome (trip_of closed.history.events) (λ trip. closed.handle.seen ≡ trip.0)
      → ForSome (trip_of launched.history.events) (λ trip. launched.rocket.handle.seen ≡ trip.0)
  left_word above seen trip found =
      let there : trip_of closed.history.events ≡ Some trip = ap (λ (h : HistoryOf C R L). trip_of h.events) (sym is.history) ∙ found in
      is.handle.seen (subst (λ (n : ℕ). 0 < n) (sym (seen trip there)) (above trip there)) ∙ seen trip there

  pub left_still : {P : Type 0} → (P → admitted closed.history.events ≡ 0) → P → admitted launched.history.events ≡ 0
  left_still still some = rw is.history (still some)

  pub left_over : (listeners : X → ListenerMeaning) → (closed.over ≡ true → (listeners closed.listener).ended ≡ true) → (closed.over ≡ true) ⊎ (list_any is_trip closed.history.events ≡ true)
      → IsOver (listeners launched.listener) launched.history.events
  left_over listeners ended (inl over) = inl (rw is.listener (ended over))
  left_over listeners ended (inr trip) = inr (rw is.history trip)

  pub left_offers : (listeners : X → ListenerMeaning) (offers : Option (List Asked)) → (closed.over ≡ true → ForSome offers (λ all. (listeners closed.listener).given ≡ Some all)) → (closed.over ≡ true) ⊎ (list_any is_trip closed.history.events ≡ true)
      → list_any is_trip launched.history.events ≡ false → ForSome offers (λ all. (listeners launched.listener).given ≡ Some all)
  left_offers listeners offers all (inl over) none = rw is.listener (all over)
  left_offers listeners offers all (inr trip) none = absurd (cc (trip, rw is.history at none))

  pub left_goes_on : (listeners : X → ListenerMeaning) → (closed.over ≡ false → (listeners closed.listener).ended ≡ false) → (closed.over ≡ false) × (list_any is_trip closed.history.events ≡ false)
      → GoesOn (listeners launched.listener) launched.history.events
  left_goes_on listeners goes none = (rw is.listener (goes none.0), rw is.history none.1)

  pub left_sound : (listeners : X → ListenerMeaning) (old : ListenerMeaning) → SoundAs closed.faulted old (listeners closed.listener) → closed.faulted ≡ false → old.faults ≡ 0 → (listeners launched.listener).faults ≡ 0
  left_sound listeners old sound goes none = rw is.listener (subst (λ (b : Bool). SoundAs b old (listeners closed.listener)) goes sound ∙ none)

  pub left_none_abandoned : list_any is_abandoned closed.history.events ≡ false → list_any is_abandoned launched.history.events ≡ false
  left_none_abandoned none = rw is.history none

  -- one that has failed has counted it
  pub left_failed : (listeners : X → ListenerMeaning) (old : ListenerMeaning) → SoundAs closed.faulted old (listeners closed.listener) → closed.faulted ≡ true → 0 < (listeners launched.listener).faults
  left_failed listeners old sound failed =
      let fault = subst (λ (b : Bool). SoundAs b old (listeners closed.listener)) failed sound in
      rw is.listener (omega (arith, fault.0))

  pub left_shut : (listeners : X → ListenerMeaning) (old : ListenerMeaning) → SoundAs closed.faulted old (listeners closed.listener) → (closed.faulted ≡ true) ⊎ (list_any is_abandoned closed.history.events ≡ true)
      → (0 < (listeners launched.listener).faults) ⊎ (list_any is_abandoned launched.history.events ≡ true)
  left_shut listeners old sound (inl failed) = inl (left_failed listeners old sound failed)
  left_shut listeners old sound (inr abandoned) = inr (rw is.history abandoned)

  pub left_settled : (listeners : X → ListenerMeaning) (old : ListenerMeaning) → Settled old (listeners closed.listener) → Settled old (listeners launched.listener)
  left_settled listeners old settled = rw is.listener settled

  pub left_window : (clocks : Q → ClockMeaning) (old : ClockMeaning) → TellsOn old (clocks closed.clock) → (clocks launched.clock).window ≡ old.window
  left_window clocks old tells = rw is.clock tells.window

-- a listener that says that it never fails has not
pub never_failed : (faulted : Bool) (old new : ListenerMeaning) → SoundAs faulted old new → old.never_faults ≡ true → faulted ≡ false
never_failed false old new sound never = refl
never_failed true old new sound never = absurd (cc (sound.1, never))

-- a handle that liftoff had, that was looked at more, and then taken back
pub back_to : (first lent left closed after : Handle) → lent ≡ first → HandsBack lent left → HandsBack left closed → HandsBack closed after → HandsBack first after
back_to first lent left closed after same lifted one two = subst (λ (h : Handle). HandsBack h after) same (hands_back_more lent left after lifted (hands_back_more left closed after one two))

-- a listener that never fails has not, so that an exchange was abandoned
pub left_abandoned : {V S C R F FTask GTask STask H HTask K KTask N L X Q : Type 0} (launch : Launching V S C R F FTask GTask STask H HTask K KTask N L) (tables : SeenTables F H K N V)
    (table : List (List ℕ × List ℕ)) (closed : ClosedOf X Q Handle (HistoryOf C R L)) (launched : LaunchedOf (SeenRocket F H K N V) X Q (HistoryOf C R L)) → IsLeft tables table closed launched → closed.faulted ≡ false
    → AllCaused launch tables closed.history.events → AllTimed launch.serving.window closed.history.events → (closed.faulted ≡ true) ⊎ (list_any is_abandoned closed.history.events ≡ true) → MayAbandon launch launched.rocket.tables
left_abandoned launch tables table closed launched is sound caused timed (inl failed) = absurd (cc (failed, sound))
left_abandoned launch tables table closed launched is sound caused timed (inr abandoned) = rw is.tables_are (may_abandon launch tables closed.history.events caused timed abandoned)

-- what was lent is of the wire that the handle is of
pub same_wire : (back : Option Handle) (lent handle closed : Handle) → IfSome back (HandsBack lent) → HandsBack handle closed → lent.wire ≡ handle.wire → IfSome back (λ other. other.wire ≡ closed.wire)
same_wire None lent handle closed one two same = tt
same_wire (Some other) lent handle closed one two same = one.wire ∙ (same ∙ sym two.wire)

-- two facts of what was answered, for a third
pub if_both : {X E : Type 0} (answer : Result X E) (P Q T : X → Type 0) → ((x : X) → P x → Q x → T x) → IfOk answer P → IfOk answer Q → IfOk answer T
if_both (Ok x) P Q T so one two = so x one two
if_both (Err error) P Q T so one two = tt

-- what has ignited is not refused
pub unlit_lit : {M X Q : Type 0} (P : IgniteError → Type 0) (error : ErrorKindOf M X Q) → IsLit error → IfUnlit error P
unlit_lit P (NoMemory kept) lit = tt
unlit_lit P (Shutdown launched) lit = tt
unlit_lit P (Ignition fault listener clock) lit = absurd lit

pub gives_lit : {M X Q : Type 0} (listener : X) (clock : Q) (error : ErrorKindOf M X Q) → IsLit error → GivesBack listener clock error
gives_lit listener clock (NoMemory kept) lit = tt
gives_lit listener clock (Shutdown launched) lit = tt
gives_lit listener clock (Ignition fault l c) lit = absurd lit
