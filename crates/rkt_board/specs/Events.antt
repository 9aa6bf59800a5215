-- Which lists of events are in order. No relation of an application stands here.
use Rattle.std.specs.Prelude.{◌≡◌, ◌<◌, ◌≤◌, ◌+◌, ◌++◌, ℕ, zero, suc, nat_le, nat_lt, max, cond, Bool, true, false, ◌==◌, ◌&&◌, List, [], ◌∷◌, Option, Some, None, length, if◌then◌else◌}
use Rattle.std.specs.List.{list_any, count_by}
use Rattle.std.specs.Option.{ForSome}
use Rattle.rkt_board.specs.After.{AfterFrom}
use Rattle.rkt_fairing.specs.declared.called.Called.{Called}
use Rattle.rkt_board.specs.declared.history.End.{End as Ending}
use Rattle.rkt_board.specs.declared.history.End.TheVariants.{Answered, Lost, Cut, Failed, Abandoned, Starved}
use Rattle.rkt_board.specs.declared.history.EntryOf.{EntryOf}
use Rattle.rkt_board.specs.declared.history.EventOf.{EventOf}
use Rattle.rkt_board.specs.declared.history.EventOf.TheVariants.{Lift, Trip, Admit, End, Down, Close}

-- with this entry at a place that has none
abbrev pub with_first : {E : Type 0} → ℕ → E → List (Option E) → List (Option E)
with_first at entry [] = []
with_first zero entry (None ∷ places) = Some entry ∷ places
with_first zero entry (Some other ∷ places) = Some other ∷ places
with_first (suc at) entry (place ∷ places) = place ∷ with_first at entry places

-- the word of a Trip, or 0 where there is none
abbrev pub word_of : Option (ℕ × ℕ) → ℕ
word_of None = 0
word_of (Some trip) = trip.0

abbrev pub was_abandoned : Ending → Bool
was_abandoned Abandoned = true
was_abandoned Answered = false
was_abandoned Lost = false
was_abandoned (Cut saw cut) = false
was_abandoned (Failed failure) = false
was_abandoned Starved = false

module _ {C S K : Type 0} where
  abbrev pub is_trip : EventOf C S K → Bool
  is_trip (Trip w m) = true
  is_trip (Lift calls) = false
  is_trip (Admit n m b) = false
  is_trip (End n e m b) = false
  is_trip (Down calls) = false
  is_trip (Close m) = false

  abbrev pub is_admit : EventOf C S K → Bool
  is_admit (Admit n m b) = true
  is_admit (Lift calls) = false
  is_admit (Trip w m) = false
  is_admit (End n e m b) = false
  is_admit (Down calls) = false
  is_admit (Close m) = false

  -- it ends an exchange that was abandoned
  abbrev pub is_abandoned : EventOf C S K → Bool
  is_abandoned (End n e m b) = was_abandoned e.end
  is_abandoned (Lift calls) = false
  is_abandoned (Trip w m) = false
  is_abandoned (Admit n m b) = false
  is_abandoned (Down calls) = false
  is_abandoned (Close m) = false

  abbrev pub is_down : EventOf C S K → Bool
  is_down (Down calls) = true
  is_down (Lift calls) = false
  is_down (Trip w m) = false
  is_down (Admit n m b) = false
  is_down (End n e m b) = false
  is_down (Close m) = false

  abbrev pub is_close : EventOf C S K → Bool
  is_close (Close m) = true
  is_close (Lift calls) = false
  is_close (Trip w m) = false
  is_close (Admit n m b) = false
  is_close (End n e m b) = false
  is_close (Down calls) = false

  -- it admits this number
  abbrev pub admits : ℕ → EventOf C S K → Bool
  admits number (Admit n m b) = n == number
  admits number (Lift calls) = false
  admits number (Trip w m) = false
  admits number (End n e m b) = false
  admits number (Down calls) = false
  admits number (Close m) = false

  -- this worker admits this number
  abbrev pub admits_by : ℕ → ℕ → EventOf C S K → Bool
  admits_by number by (Admit n m b) = n == number && b == by
  admits_by number by (Lift calls) = false
  admits_by number by (Trip w m) = false
  admits_by number by (End n e m b) = false
  admits_by number by (Down calls) = false
  admits_by number by (Close m) = false

  -- it admits this number, and not after this moment
  abbrev pub admits_until : ℕ → ℕ → EventOf C S K → Bool
  admits_until number moment (Admit n m b) = n == number && nat_le m moment
  admits_until number moment (Lift calls) = false
  admits_until number moment (Trip w m) = false
  admits_until number moment (End n e m b) = false
  admits_until number moment (Down calls) = false
  admits_until number moment (Close m) = false

  -- it ends this number
  abbrev pub ends : ℕ → EventOf C S K → Bool
  ends number (End n e m b) = n == number
  ends number (Lift calls) = false
  ends number (Trip w m) = false
  ends number (Admit n m b) = false
  ends number (Down calls) = false
  ends number (Close m) = false

  -- the moment of an event, or 0 where it has none
  abbrev pub moment_of : EventOf C S K → ℕ
  moment_of (Lift calls) = 0
  moment_of (Trip w m) = m
  moment_of (Admit n m b) = m
  moment_of (End n e m b) = m
  moment_of (Down calls) = 0
  moment_of (Close m) = m

  -- the latest moment
  abbrev pub latest : List (EventOf C S K) → ℕ
  latest [] = 0
  latest (e ∷ es) = max (moment_of e) (latest es)

  -- how many were admitted
  abbrev pub admitted : List (EventOf C S K) → ℕ
  admitted events = count_by is_admit events

  -- how many numbers below this one have an End
  abbrev pub ended_below : ℕ → List (EventOf C S K) → ℕ
  ended_below zero events = 0
  ended_below (suc n) events = cond (list_any (ends n) events) 1 0 + ended_below n events

  -- how the callbacks of liftoff ended, where a Lift stands first
  abbrev pub lift_calls : List (EventOf C S K) → List Called
  lift_calls [] = []
  lift_calls (Lift calls ∷ es) = calls
  lift_calls (Trip w m ∷ es) = []
  lift_calls (Admit n m b ∷ es) = []
  lift_calls (End n e m b ∷ es) = []
  lift_calls (Down calls ∷ es) = []
  lift_calls (Close m ∷ es) = []

  -- the word and the moment of the first Trip
  abbrev pub trip_of : List (EventOf C S K) → Option (ℕ × ℕ)
  trip_of [] = None
  trip_of (Trip w m ∷ es) = Some (w, m)
  trip_of (Lift calls ∷ es) = trip_of es
  trip_of (Admit n m b ∷ es) = trip_of es
  trip_of (End n e m b ∷ es) = trip_of es
  trip_of (Down calls ∷ es) = trip_of es
  trip_of (Close m ∷ es) = trip_of es

  -- its word, or 0
  abbrev pub trip_word : List (EventOf C S K) → ℕ
  trip_word events = word_of (trip_of events)

  -- the entry of the first End of a number
  abbrev pub end_of : ℕ → List (EventOf C S K) → Option (EntryOf C S K)
  end_of number [] = None
  end_of number (End n e m b ∷ es) = if n == number then Some e else end_of number es
  end_of number (Lift calls ∷ es) = end_of number es
  end_of number (Trip w m ∷ es) = end_of number es
  end_of number (Admit n m b ∷ es) = end_of number es
  end_of number (Down calls ∷ es) = end_of number es
  end_of number (Close m ∷ es) = end_of number es

  -- with the entry of an End at the place of its number
  abbrev pub noted : EventOf C S K → List (Option (EntryOf C S K)) → List (Option (EntryOf C S K))
  noted (End number entry m b) places = with_first number entry places
  noted (Lift calls) places = places
  noted (Trip w m) places = places
  noted (Admit n m b) places = places
  noted (Down calls) places = places
  noted (Close m) places = places

  -- a run of this number, where there is one, has a moment between those of its Admit and of its End
  abbrev pub IsRunBetween : List (EventOf C S K) → ℕ → EntryOf C S K → ℕ → Type 0
  IsRunBetween before number entry moment =
      ForSome entry.run (λ run. (list_any (admits_until number run.moment) before ≡ true) × (run.moment ≤ moment))

  -- what each event needs of those before it
  abbrev pub MayCome : List (EventOf C S K) → EventOf C S K → Type 0
  -- it is the first
  MayCome before (Lift calls) = before ≡ []
  -- it is the only one, and has a word
  MayCome before (Trip word moment) =
      (0 < length before) × (list_any is_trip before ≡ false) × (0 < word) × (latest before ≤ moment)
  -- numbers are given in order, and none after a Trip
  MayCome before (Admit number moment by) =
      (0 < length before) × (list_any is_trip before ≡ false) × (number ≡ admitted before) × (latest before ≤ moment)
  -- the number was admitted by the same worker, and has not ended
  MayCome before (End number entry moment by) =
      (list_any (admits_by number by) before ≡ true)
      × (list_any (ends number) before ≡ false)
      × (latest before ≤ moment)
      × IsRunBetween before number entry moment
  -- it is the only one after a Trip
  MayCome before (Down calls) = (list_any is_trip before ≡ true) × (list_any is_down before ≡ false)
  -- no number is open, and a Down stands where a Trip does
  MayCome before (Close moment) =
      (0 < length before)
      × ((k : ℕ) → list_any (admits k) before ≡ list_any (ends k) before)
      × (list_any is_down before ≡ list_any is_trip before)
      × (latest before ≤ moment)

  -- nothing comes after a Close
  abbrev pub InOrder : List (EventOf C S K) → EventOf C S K → Type 0
  InOrder before event = (list_any is_close before ≡ false) × MayCome before event

  abbrev pub Ordered : List (EventOf C S K) → Type 0
  Ordered events = AfterFrom InOrder [] events

  -- the last event is Close
  abbrev pub IsClosed : List (EventOf C S K) → Type 0
  IsClosed events = (others : List (EventOf C S K)) × (moment : ℕ) × (events ≡ others ++ Close moment ∷ [])

  -- each number that was admitted has exactly one End, and no other number has one
  abbrev pub EachEndsOnce : List (EventOf C S K) → Type 0
  EachEndsOnce events = (k : ℕ) → count_by (ends k) events ≡ (if nat_lt k (admitted events) then 1 else 0)
