-- How the caller comes to rest again.
use Rattle.std.proofs.Common.{inl, inr, ◌≡◌, ◌++◌, ℕ, Bool, true, false, ◌==◌, ◌||◌, List, [], ◌∷◌, refl, ap, ◌∙◌, sym, subst, arith}
use Rattle.std.proofs.lemmas.Grind.{common_steps}
use Rattle.std.specs.List.{AllByRecursion, list_any}
use Rattle.std.specs.declared.snapshot.Snapshot.{Snapshot}
use Rattle.rkt_board.proofs.Pushes.{all_push, any_push, map_push}
use Rattle.rkt_board.specs.Events.{is_trip, is_down, is_close, admits, ends}
use Rattle.rkt_board.specs.Records.{events}
use Rattle.rkt_board.specs.Turns.{logged, admit_mark, DownsAs, ClosesAs, MayClose, TripsAs}
use Rattle.rkt_fairing.specs.declared.called.Called.{Called}
use Rattle.rkt_board.specs.declared.history.EntryOf.{EntryOf}
use Rattle.rkt_board.specs.declared.history.EventOf.{EventOf}
use Rattle.rkt_board.specs.declared.history.EventOf.TheVariants.{Lift, Trip, Admit, End, Down, Close}
use Rattle.rkt_board.specs.declared.log_record.RecordOf.{RecordOf}
use Rattle.rkt_worker.specs.Headline.{IsCallers}
use Rattle.rkt_worker.specs.Rest.{IsAtRest}

module _ {C R L : Type 0} where
  pub rest_lift : (ms : List (RecordOf C R L)) (by : ℕ) (calls : List Called) → ms ≡ logged by (Lift calls) ∷ [] → IsAtRest ms
  rest_lift ms by calls is = rw is (record { none_open = λ k. refl; up = refl; unclosed = refl; callers = (tt, tt) })

  pub rest_trip : (old new : List (RecordOf C R L)) (by word moment : ℕ) → IsAtRest old → new ≡ old ++ logged by (Trip word moment) ∷ [] → IsAtRest new
  rest_trip old new by word moment rest is =
      let es = events old in
      let e : EventOf C R L = Trip word moment in
      let now : events new ≡ es ++ e ∷ [] = ap events is ∙ map_push (λ m. m.event) old (logged by e) in
      let both : (k : ℕ) → list_any (admits k) (es ++ e ∷ []) ≡ list_any (ends k) (es ++ e ∷ []) = λ k. any_push (admits k) es e ∙ grind (arith, common_steps, rest.none_open k, any_push (ends k) es e) in
      record {
        none_open = λ k. ap (list_any (admits k)) now ∙ (both k ∙ sym (ap (list_any (ends k)) now));
        up = ap (list_any is_down) now ∙ (any_push is_down es e ∙ grind (arith, common_steps, rest.up));
        unclosed = ap (list_any is_close) now ∙ (any_push is_close es e ∙ grind (arith, common_steps, rest.unclosed));
        callers = subst (λ l. AllByRecursion IsCallers l) (sym now) (all_push IsCallers es e rest.callers tt);
      }

  -- the same, but that this number alone is open
  pub record IsBusy (number : ℕ) (records : List (RecordOf C R L)) : Type 0 where
    pub open_is : (k : ℕ) → list_any (admits k) (events records) ≡ (list_any (ends k) (events records) || (number == k))
    pub up : list_any is_down (events records) ≡ false
    pub unclosed : list_any is_close (events records) ≡ false
    pub callers : AllByRecursion IsCallers (events records)

  -- a link was admitted
  pub busy_given : (old new : List (RecordOf C R L)) (number moment : ℕ) (copy : Snapshot L) → IsAtRest old → new ≡ old ++ admit_mark 0 number moment copy ∷ [] → IsBusy number new
  busy_given old new number moment copy rest is =
      let es = events old in
      let e : EventOf C R L = Admit number moment 0 in
      let now : events new ≡ es ++ e ∷ [] = ap events is ∙ map_push (λ m. m.event) old (admit_mark 0 number moment copy) in
      let both : (k : ℕ) → list_any (admits k) (es ++ e ∷ []) ≡ (list_any (ends k) (es ++ e ∷ []) || (number == k)) =
      λ k. any_push (admits k) es e ∙ grind (arith, common_steps, rest.none_open k, any_push (ends k) es e) in
      record {
        open_is = λ k. ap (list_any (admits k)) now ∙ (both k ∙ sym (ap (λ l. list_any (ends k) l || (number == k)) now));
        up = ap (list_any is_down) now ∙ (any_push is_down es e ∙ grind (arith, common_steps, rest.up));
        unclosed = ap (list_any is_close) now ∙ (any_push is_close es e ∙ grind (arith, common_steps, rest.unclosed));
        callers = subst (λ l. AllByRecursion IsCallers l) (sym now) (all_push IsCallers es e rest.callers refl);
      }

  -- a Trip was entered meanwhile, or nothing
  pub busy_trip : (number by : ℕ) (old new : List (RecordOf C R L)) → IsBusy number old → TripsAs by old new → IsBusy number new
  busy_trip number by old new busy (inl same) = subst (IsBusy number) (sym same) busy
  busy_trip number by old new busy (inr (word, moment, is)) =
      let es = events old in
      let e : EventOf C R L = Trip word moment in
      let now : events new ≡ es ++ e ∷ [] = ap events is ∙ map_push (λ m. m.event) old (logged by e) in
      let both : (k : ℕ) → list_any (admits k) (es ++ e ∷ []) ≡ (list_any (ends k) (es ++ e ∷ []) || (number == k)) =
      λ k. any_push (admits k) es e ∙ grind (arith, common_steps, busy.open_is k, any_push (ends k) es e) in
      record {
        open_is = λ k. ap (list_any (admits k)) now ∙ (both k ∙ sym (ap (λ l. list_any (ends k) l || (number == k)) now));
        up = ap (list_any is_down) now ∙ (any_push is_down es e ∙ grind (arith, common_steps, busy.up));
        unclosed = ap (list_any is_close) now ∙ (any_push is_close es e ∙ grind (arith, common_steps, busy.unclosed));
        callers = subst (λ l. AllByRecursion IsCallers l) (sym now) (all_push IsCallers es e busy.callers tt);
      }

  -- its End was entered
  pub rest_end : (old new : List (RecordOf C R L)) (number moment : ℕ) (entry : EntryOf C R L) → IsBusy number old → new ≡ old ++ logged 0 (End number entry moment 0) ∷ [] → IsAtRest new
  rest_end old new number moment entry busy is =
      let es = events old in
      let e : EventOf C R L = End number entry moment 0 in
      let now : events new ≡ es ++ e ∷ [] = ap events is ∙ map_push (λ m. m.event) old (logged 0 e) in
      let both : (k : ℕ) → list_any (admits k) (es ++ e ∷ []) ≡ list_any (ends k) (es ++ e ∷ []) =
      λ k. any_push (admits k) es e ∙ grind (arith, common_steps, busy.open_is k, any_push (ends k) es e) in
      record {
        none_open = λ k. ap (list_any (admits k)) now ∙ (both k ∙ sym (ap (list_any (ends k)) now));
        up = ap (list_any is_down) now ∙ (any_push is_down es e ∙ grind (arith, common_steps, busy.up));
        unclosed = ap (list_any is_close) now ∙ (any_push is_close es e ∙ grind (arith, common_steps, busy.unclosed));
        callers = subst (λ l. AllByRecursion IsCallers l) (sym now) (all_push IsCallers es e busy.callers refl);
      }

  -- behind a Trip the Down is entered, and then the Close may be
  pub close_down : (old new : List (RecordOf C R L)) (by : ℕ) (calls : List Called) → IsAtRest old → list_any is_trip (events old) ≡ true → new ≡ old ++ logged by (Down calls) ∷ [] → MayClose new
  close_down old new by calls rest tripped is =
      let es = events old in
      let e : EventOf C R L = Down calls in
      let now : events new ≡ es ++ e ∷ [] = ap events is ∙ map_push (λ m. m.event) old (logged by e) in
      let both : (k : ℕ) → list_any (admits k) (es ++ e ∷ []) ≡ list_any (ends k) (es ++ e ∷ []) = λ k. any_push (admits k) es e ∙ grind (arith, common_steps, rest.none_open k, any_push (ends k) es e) in
      let same : list_any is_down (es ++ e ∷ []) ≡ list_any is_trip (es ++ e ∷ []) = any_push is_down es e ∙ grind (arith, common_steps, any_push is_trip es e, tripped) in
      record {
        unclosed = ap (list_any is_close) now ∙ (any_push is_close es e ∙ grind (arith, common_steps, rest.unclosed));
        none_open = λ k. ap (list_any (admits k)) now ∙ (both k ∙ sym (ap (list_any (ends k)) now));
        down = ap (list_any is_down) now ∙ (same ∙ sym (ap (list_any is_trip) now));
      }

  pub close_calm : (ms : List (RecordOf C R L)) → IsAtRest ms → list_any is_trip (events ms) ≡ false → MayClose ms
  close_calm ms rest calm = record { unclosed = rest.unclosed; none_open = rest.none_open; down = rest.up ∙ sym calm }

  pub callers_down : (old new : List (RecordOf C R L)) (by : ℕ) (calls : List Called) → AllByRecursion IsCallers (events old) → new ≡ old ++ logged by (Down calls) ∷ [] → AllByRecursion IsCallers (events new)
  callers_down old new by calls callers is =
      let now : events new ≡ events old ++ Down calls ∷ [] = ap events is ∙ map_push (λ m. m.event) old (logged by (Down calls)) in rw now (all_push IsCallers (events old) (Down calls) callers tt)

  -- a Close was entered
  pub closed_now : (old new : List (RecordOf C R L)) (by moment : ℕ) → AllByRecursion IsCallers (events old) → new ≡ old ++ logged by (Close moment) ∷ [] → (list_any is_close (events new) ≡ true) × AllByRecursion IsCallers (events new)
  closed_now old new by moment callers is =
      let e : EventOf C R L = Close moment in
      let now : events new ≡ events old ++ e ∷ [] = ap events is ∙ map_push (λ m. m.event) old (logged by e) in
      rw now (any_push is_close (events old) e ∙ grind (arith, common_steps), all_push IsCallers (events old) e callers tt)

  -- what may be brought down is
  pub downed : (by : ℕ) (calls : List Called) (old new : List (RecordOf C R L)) (result : Bool) → result ≡ true → DownsAs by calls old new result → new ≡ old ++ logged by (Down calls) ∷ []
  downed by calls old new true is adds = adds
  downed by calls old new false is adds = absurd (cc is)

  -- and what may be closed is
  pub closed_so : (by : ℕ) (old new : List (RecordOf C R L)) (result : Bool) → result ≡ true → ClosesAs by old new result → AllByRecursion IsCallers (events old) → (list_any is_close (events new) ≡ true) × AllByRecursion IsCallers (events new)
  closed_so by old new true is adds callers = closed_now old new by adds.0 callers adds.1
  closed_so by old new false is adds callers = absurd (cc is)
