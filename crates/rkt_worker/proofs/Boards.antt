-- What is known of an exchange on a board.
use Rattle.std.proofs.Common.{◌≡◌, ◌<◌, ◌≤◌, ◌∙◌, ◌++◌, inl, inr, ℕ, Bool, true, false, List, [], ◌∷◌, Option, Some, None, refl, ap, sym, subst, arith}
use Rattle.std.proofs.lemmas.Grind.{common_steps}
use Rattle.std.proofs.lemmas.Bool.Decides.{nat_tests}
use Rattle.std.specs.Prelude.{IfNone, IfSome, IsNone, IsSome, IsSomeAnd}
use Rattle.std.specs.List.{list_any, All}
use Rattle.std.proofs.lemmas.List.Elements.{All-weaker}
use Rattle.rkt_board.proofs.Core.{found_trip}
use Rattle.rkt_board.proofs.Pushes.{any_push, map_push}
use Rattle.rkt_board.specs.Events.{admits_until, is_trip, trip_of}
use Rattle.rkt_board.specs.Records.{events}
use Rattle.rkt_board.specs.Turns.{logged, ClosesAs, DownsAs, ShowsTrip, TripsAs}
use Rattle.rkt_board.specs.declared.log_record.RecordOf.{RecordOf}
use Rattle.rkt_fairing.specs.declared.called.Called.{Called}
use Rattle.rkt_worker.proofs.Meanwhile.{with_trip}
use Rattle.rkt_routing.specs.Backs.{Sees}
use Rattle.rkt_routing.specs.declared.run.Call.{Call}
use Rattle.rkt_worker.specs.Causes.{SawTrip}
use Rattle.rkt_turn.specs.HandsBack.{HandsBack}
use Rattle.rkt_turn.specs.Shutdown.{Handle}
use Rattle.rkt_board.specs.declared.history.EventOf.{EventOf}
use Rattle.rkt_board.specs.declared.history.EventOf.TheVariants.{Lift, Trip, Admit, End, Down, Close}

-- what was admitted until a moment was so until a later one
pub until_later : {C R L : Type 0} (number from to : ℕ) (es : List (EventOf C R L)) → from ≤ to → list_any (admits_until number from) es ≡ true → list_any (admits_until number to) es ≡ true
until_later number from to [] late there = absurd (cc there)
until_later number from to (Admit n m b ∷ es) late there = grind (arith, common_steps, nat_tests, late, there, until_later number from to es late)
until_later number from to (Lift calls ∷ es) late there = until_later number from to es late there
until_later number from to (Trip w m ∷ es) late there = until_later number from to es late there
until_later number from to (End n x m b ∷ es) late there = until_later number from to es late there
until_later number from to (Down calls ∷ es) late there = until_later number from to es late there
until_later number from to (Close m ∷ es) late there = until_later number from to es late there

-- where a handle that has seen a word was given to the board, the words that its run recorded are that of the Trip
pub saw_trip : {C R L : Type 0} (back given : Option Handle) (es : List (EventOf C R L)) (calls : List Call) → IfSome back (λ b. (given ≡ Some b) × (b.seen ≡ 0)) → IfNone back (IfSome given (λ h. ShowsTrip (Some h.seen) es))
    → IsSomeAnd given (λ h. All (Sees h) calls) → All (SawTrip es) calls
saw_trip back None es calls unseen trip words = absurd words
saw_trip None (Some handle) es calls unseen trip words = All-weaker (Sees handle) (SawTrip es) (λ call sees some. subst (λ (w : ℕ). ShowsTrip (Some w) es) (sees some) trip) calls words
saw_trip (Some b) (Some handle) es calls unseen trip words = All-weaker (Sees handle) (SawTrip es) (λ call sees some.
    let same : handle ≡ b = cc unseen.0 in
    let q : handle.seen ≡ 0 = ap (λ (h : Handle). h.seen) same ∙ unseen.1 in
    let p : handle.seen ≡ call.word = sees some in
    absurd (omega (arith, some, p, q))) calls words

-- a handle that comes back is of the wire of the one that was lent
pub wire_back : (back : Option Handle) (lent other : Handle) → IfSome back (HandsBack lent) → lent.wire ≡ other.wire → IfSome back (λ h. h.wire ≡ other.wire)
wire_back None lent other hands same = tt
wire_back (Some h) lent other hands same = hands.wire ∙ same

-- and what the board leaves of it comes back
pub still_back : (back given : Option Handle) (lent : Handle) → IfSome back (λ b. (given ≡ Some b) × (b.seen ≡ 0)) → IfSome given (HandsBack lent) → IfSome back (HandsBack lent)
still_back None given lent unseen hands = tt
still_back (Some b) None lent unseen hands = absurd (cc unseen.0)
still_back (Some b) (Some h) lent unseen hands = let same : h ≡ b = cc unseen.0 in subst (λ (x : Handle). HandsBack lent x) same hands

-- a handle that had seen a word has still
pub seen_on : (old new : Handle) → HandsBack old new → 0 < old.seen → 0 < new.seen
seen_on old new back some = subst (λ n. 0 < n) (sym (back.seen some)) some

-- a handle that the board leaves has seen no word
pub unseen_back : (back given : Option Handle) → IfSome back (λ b. (given ≡ Some b) × (b.seen ≡ 0)) → IfSome back (λ b. b.seen ≡ 0)
unseen_back None given unseen = tt
unseen_back (Some b) given unseen = unseen.1

module _ {C R L : Type 0} where
  -- a Trip stays a Trip
  pub trip_stays : (by : ℕ) (old new : List (RecordOf C R L)) → TripsAs by old new → list_any is_trip (events old) ≡ true → list_any is_trip (events new) ≡ true
  trip_stays by old new (inl same) there = subst (λ ms. list_any is_trip (events ms) ≡ true) (sym same) there
  trip_stays by old new (inr (word, moment, is)) there =
      ap (list_any is_trip) (with_trip by word moment old new is) ∙ (any_push is_trip (events old) (Trip word moment) ∙ grind (arith, common_steps, there))

  -- one that is found is there
  pub trip_there : (es : List (EventOf C R L)) → IsSome (trip_of es) → list_any is_trip es ≡ true
  trip_there es some = by_trip (trip_of es) refl some
    where
      by_trip : (t : Option (ℕ × ℕ)) → trip_of es ≡ t → IsSome t → list_any is_trip es ≡ true
      by_trip None there some = absurd (cc some)
      by_trip (Some t) there some = found_trip es t there

  -- what follows that is no Trip changes nothing of that
  pub trips_same : (old new : List (RecordOf C R L)) (m : RecordOf C R L) → is_trip m.event ≡ false → new ≡ old ++ m ∷ [] → list_any is_trip (events new) ≡ list_any is_trip (events old)
  trips_same old new m other is =
      let now : events new ≡ events old ++ m.event ∷ [] = ap events is ∙ map_push (λ x. x.event) old m in
      ap (list_any is_trip) now ∙ (any_push is_trip (events old) m.event ∙ grind (arith, common_steps, other))

  pub trip_entered : (old new : List (RecordOf C R L)) (by word moment : ℕ) → new ≡ old ++ logged by (Trip word moment) ∷ [] → list_any is_trip (events new) ≡ true
  trip_entered old new by word moment is = ap (list_any is_trip) (with_trip by word moment old new is) ∙ (any_push is_trip (events old) (Trip word moment) ∙ grind (arith, common_steps))

  -- where no handle comes back, there is a Trip: the board has the handle, or the exchange was left alone
  pub left_tripped : (back given : Option Handle) (mid last : List (RecordOf C R L)) → IsNone back → IfNone back (IfSome given (λ h. ShowsTrip (Some h.seen) (events last))) → (IsNone given → list_any is_trip (events mid) ≡ true) → TripsAs 0 mid last
      → list_any is_trip (events last) ≡ true
  left_tripped (Some b) given mid last none trip left adds = absurd (cc none)
  left_tripped None None mid last none trip left adds = trip_stays 0 mid last adds (left refl)
  left_tripped None (Some h) mid last none trip left adds = trip.0

  -- a Down or a Close is no Trip
  pub down_same : (by : ℕ) (calls : List Called) (old new : List (RecordOf C R L)) (result : Bool) → DownsAs by calls old new result → list_any is_trip (events new) ≡ list_any is_trip (events old)
  down_same by calls old new true adds = trips_same old new (logged by (Down calls)) refl adds
  down_same by calls old new false adds = ap (λ ms. list_any is_trip (events ms)) adds

  pub close_same : (by : ℕ) (old new : List (RecordOf C R L)) (result : Bool) → ClosesAs by old new result → list_any is_trip (events new) ≡ list_any is_trip (events old)
  close_same by old new true adds = trips_same old new (logged by (Close adds.0)) refl adds.1
  close_same by old new false adds = ap (λ ms. list_any is_trip (events ms)) adds
