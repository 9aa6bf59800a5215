-- Where a history has an exchange that was abandoned, one may be.
use Rattle.std.proofs.Common.{◌≡◌, ◌++◌, ◌⊎◌, inl, inr, ℕ, Bool, true, false, List, [], ◌∷◌, Some, refl, subst, arith}
use Rattle.std.proofs.lemmas.Grind.{common_steps}
use Rattle.std.specs.List.{AllByRecursion, list_any}
use Rattle.rkt_exchange.specs.Tables.{SeenTables}
use Rattle.rkt_link.specs.Clock.{IsWithin}
use Rattle.rkt_board.specs.After.{AfterFrom}
use Rattle.rkt_board.specs.Board.{TimedIn}
use Rattle.rkt_board.specs.Events.{is_abandoned, was_abandoned, trip_of}
use Rattle.rkt_board.specs.declared.history.End.{End as Ending}
use Rattle.rkt_board.specs.declared.history.End.TheVariants.{Answered, Lost, Cut, Failed, Abandoned, Starved}
use Rattle.rkt_board.specs.declared.history.EntryOf.{EntryOf}
use Rattle.rkt_board.specs.declared.history.EventOf.{EventOf}
use Rattle.rkt_board.specs.declared.history.EventOf.TheVariants.{Lift, Trip, Admit, End, Down, Close}
use Rattle.rkt_worker.specs.Causes.{AllCaused, CausedAs, CauseAt, IsDueBehind}
use Rattle.rkt_worker.specs.Gates.{word_in}
use Rattle.rkt_worker.specs.Serving.{Launching}
use Rattle.rkt_worker.specs.Waiting.{MayAbandon}

-- the first Trip of a list that is one longer was there, or has come
trip_pushed : {C R L : Type 0} (es : List (EventOf C R L)) (e : EventOf C R L) (trip : ℕ × ℕ) → trip_of (es ++ e ∷ []) ≡ Some trip → (trip_of es ≡ Some trip) ⊎ (trip_of (e ∷ []) ≡ Some trip)
trip_pushed [] e trip found = inr found
trip_pushed (Trip w m ∷ es) e trip found = inl found
trip_pushed (Lift calls ∷ es) e trip found = trip_pushed es e trip found
trip_pushed (Admit n m b ∷ es) e trip found = trip_pushed es e trip found
trip_pushed (End n x m b ∷ es) e trip found = trip_pushed es e trip found
trip_pushed (Down calls ∷ es) e trip found = trip_pushed es e trip found
trip_pushed (Close m ∷ es) e trip found = trip_pushed es e trip found

module _ {V S C R F FTask GTask STask H HTask K KTask N L : Type 0} (launch : Launching V S C R F FTask GTask STask H HTask K KTask N L) (tables : SeenTables F H K N V) where
  -- the word of the Trip is allowed, and its moment lies in the window
  abbrev Known : List (EventOf C R L) → Type 0
  Known before = (trip : ℕ × ℕ) → trip_of before ≡ Some trip → launch.allowed trip.0 × IsWithin launch.serving.window trip.1

  known_one : (before : List (EventOf C R L)) (e : EventOf C R L) (trip : ℕ × ℕ) → CauseAt launch tables before e → TimedIn launch.serving.window e → trip_of (e ∷ []) ≡ Some trip → launch.allowed trip.0 × IsWithin launch.serving.window trip.1
  known_one before (Trip w m) trip cause timed found = let same : (w, m) ≡ trip = cc found in subst (λ (t : ℕ × ℕ). launch.allowed t.0 × IsWithin launch.serving.window t.1) same (cause, timed)
  known_one before (Lift calls) trip cause timed found = absurd (cc found)
  known_one before (Admit n m b) trip cause timed found = absurd (cc found)
  known_one before (End n x m b) trip cause timed found = absurd (cc found)
  known_one before (Down calls) trip cause timed found = absurd (cc found)
  known_one before (Close m) trip cause timed found = absurd (cc found)

  known_push : (before : List (EventOf C R L)) (e : EventOf C R L) → Known before → CauseAt launch tables before e → TimedIn launch.serving.window e → Known (before ++ e ∷ [])
  known_push before e known cause timed trip found = by_place (trip_pushed before e trip found)
    where
      by_place : (trip_of before ≡ Some trip) ⊎ (trip_of (e ∷ []) ≡ Some trip) → launch.allowed trip.0 × IsWithin launch.serving.window trip.1
      by_place (inl there) = known trip there
      by_place (inr come) = known_one before e trip cause timed come

  by_end : (before : List (EventOf C R L)) (entry : EntryOf C R L) (moment : ℕ) (ended : Ending) → was_abandoned ended ≡ true → Known before → IsWithin launch.serving.window moment → CausedAs launch.serving tables (word_in (trip_of before)) entry ended
      → IsDueBehind tables before moment ended → MayAbandon launch tables
  by_end before entry moment Abandoned is known within caused due =
      let trip = known due.0 due.1 in
      record {
        word = due.0.0;
        allows = trip.0;
        window = λ w there.
            let from = trip.1 w there in
            let to = within w there in
            omega (arith, from.0, to.1, due.2);
        waits = caused.2;
      }
  by_end before entry moment Answered is known within caused due = absurd (cc is)
  by_end before entry moment Lost is known within caused due = absurd (cc is)
  by_end before entry moment (Cut saw cut) is known within caused due = absurd (cc is)
  by_end before entry moment (Failed failure) is known within caused due = absurd (cc is)
  by_end before entry moment Starved is known within caused due = absurd (cc is)

  at_event : (before : List (EventOf C R L)) (e : EventOf C R L) → is_abandoned e ≡ true → Known before → CauseAt launch tables before e → TimedIn launch.serving.window e → MayAbandon launch tables
  at_event before (End n entry m b) is known cause timed = by_end before entry m entry.end is known timed.0 cause.0 cause.1
  at_event before (Lift calls) is known cause timed = absurd (cc is)
  at_event before (Trip w m) is known cause timed = absurd (cc is)
  at_event before (Admit n m b) is known cause timed = absurd (cc is)
  at_event before (Down calls) is known cause timed = absurd (cc is)
  at_event before (Close m) is known cause timed = absurd (cc is)

  abandoned_from : (before es : List (EventOf C R L)) → AfterFrom (CauseAt launch tables) before es → AllByRecursion (TimedIn launch.serving.window) es → Known before → list_any is_abandoned es ≡ true → MayAbandon launch tables
  abandoned_from before [] caused timed known there = absurd (cc there)
  abandoned_from before (e ∷ es) caused timed known there = by_test (is_abandoned e) refl (abandoned_from (before ++ e ∷ []) es caused.1 timed.1 (known_push before e known caused.0 timed.0))
    where
      by_test : (t : Bool) → is_abandoned e ≡ t → (list_any is_abandoned es ≡ true → MayAbandon launch tables) → MayAbandon launch tables
      by_test true is rest = at_event before e is known caused.0 timed.0
      by_test false is rest = rest (grind (arith, common_steps, there, is))

  -- in a history with its causes, whose moments lie in the window
  pub may_abandon : (es : List (EventOf C R L)) → AllCaused launch tables es → AllByRecursion (TimedIn launch.serving.window) es → list_any is_abandoned es ≡ true → MayAbandon launch tables
  may_abandon es caused timed there = abandoned_from [] es caused timed (λ trip found. absurd (cc found)) there
