-- What is entered on a board while a link is served.
use Rattle.std.proofs.Common.{inl, inr, ◌≡◌, ◌<◌, ◌≤◌, ◌+◌, ◌⊎◌, ◌++◌, ℕ, true, false, List, [], ◌∷◌, ap, ◌∙◌, sym, subst, arith}
use Rattle.std.proofs.lemmas.Grind.{common_steps}
use Rattle.std.specs.List.{list_any}
use Rattle.rkt_turn.specs.HandsBack.{HandsBack}
use Rattle.rkt_turn.specs.Shutdown.{Handle}
use Rattle.rkt_board.proofs.Pushes.{after_last, any_push, map_push}
use Rattle.rkt_board.specs.Events.{is_trip, is_close, InOrder, Ordered}
use Rattle.rkt_board.specs.Records.{events}
use Rattle.rkt_board.specs.Turns.{logged, TripsAs}
use Rattle.rkt_board.specs.declared.history.EventOf.{EventOf}
use Rattle.rkt_board.specs.declared.history.EventOf.TheVariants.{Trip}
use Rattle.rkt_board.specs.declared.log_record.RecordOf.{RecordOf}

-- a handle has looked at the wire, or it has seen no word
abbrev pub Looks : Handle → Handle → Type 0
Looks old new = ((new.seen ≡ 0) × (old.looked ≤ new.looked)) ⊎ (old.looked < new.looked)

-- and once it looks again, it has
pub looks_again : (old mid new : Handle) → Looks old mid → (mid.seen ≡ 0 → new.looked ≡ mid.looked + 1) → HandsBack mid new → old.looked < new.looked
looks_again old mid new (inl none) load back = omega (arith, none.1, load none.0)
looks_again old mid new (inr looked) load back = omega (arith, looked, back.looked)

module _ {C R L : Type 0} where
  pub with_trip : (by word moment : ℕ) (old new : List (RecordOf C R L)) → new ≡ old ++ logged by (Trip word moment) ∷ [] → events new ≡ events old ++ Trip word moment ∷ []
  with_trip by word moment old new is = ap (λ ms. events ms) is ∙ map_push (λ m. m.event) old (logged by (Trip word moment))

  -- a Trip closes nothing
  pub still_unclosed : (by : ℕ) (old new : List (RecordOf C R L)) → TripsAs by old new → list_any is_close (events old) ≡ false → list_any is_close (events new) ≡ false
  still_unclosed by old new (inl same) unclosed = subst (λ ms. list_any is_close (events ms) ≡ false) (sym same) unclosed
  still_unclosed by old new (inr (word, moment, is)) unclosed =
      let e : EventOf C R L = Trip word moment in
      ap (list_any is_close) (with_trip by word moment old new is) ∙ (any_push is_close (events old) e ∙ grind (arith, common_steps, unclosed))

  -- there is no second Trip
  trips_once : (by : ℕ) (old mid new : List (RecordOf C R L)) (word moment again later : ℕ) → Ordered (events new) → mid ≡ old ++ logged by (Trip word moment) ∷ [] → new ≡ mid ++ logged by (Trip again later) ∷ [] → ⊥
  trips_once by old mid new word moment again later ordered first second =
      let e : EventOf C R L = Trip word moment in
      let tripped : list_any is_trip (events mid) ≡ true = ap (list_any is_trip) (with_trip by word moment old mid first) ∙ (any_push is_trip (events old) e ∙ grind (arith, common_steps)) in
      let last = after_last InOrder [] (events mid) (Trip again later) (subst (λ es. Ordered es) (with_trip by again later mid new second) ordered) in
      absurd (cc (tripped, last.1.1.1))

  -- so what enters a Trip at most, and then again, enters one at most
  pub trips_then : (by : ℕ) (old mid new : List (RecordOf C R L)) → Ordered (events new) → TripsAs by old mid → TripsAs by mid new → TripsAs by old new
  trips_then by old mid new ordered (inl same) second = subst (λ ms. TripsAs by ms new) same second
  trips_then by old mid new ordered (inr (word, moment, is)) (inl same) = inr (word, moment, same ∙ is)
  trips_then by old mid new ordered (inr (word, moment, is)) (inr (again, later, then)) = absurd (trips_once by old mid new word moment again later ordered is then)
