-- What a Trip leaves.
use Rattle.std.proofs.Common.{inl, inr, ◌≡◌, ◌<◌, ◌+◌, ◌++◌, ℕ, true, false, List, [], ◌∷◌, Some, slice_get, refl, ap, ◌∙◌, sym, subst, arith}
use Rattle.std.proofs.lemmas.Grind.{common_steps}
use Rattle.std.specs.List.{list_any}
use Rattle.rkt_turn.specs.HandsBack.{HandsBack}
use Rattle.rkt_turn.specs.Shutdown.{Handle}
use Rattle.rkt_link.specs.Link.{LinkMeaning}
use Rattle.rkt_board.proofs.Core.{down_tripped}
use Rattle.rkt_board.proofs.Counting.{is_not}
use Rattle.rkt_board.proofs.Holding.{carries_other}
use Rattle.rkt_board.proofs.Keeping.{no_less}
use Rattle.rkt_board.proofs.Pushes.{any_push, map_push, word_new}
use Rattle.rkt_board.specs.Events.{is_trip, is_down, is_close, admits_by, admits_until, ends, trip_word, Ordered}
use Rattle.rkt_board.specs.Records.{events, carries}
use Rattle.rkt_board.specs.Turns.{logged, IsOpen, MayDown, TripsAs, ShowsTrip, StaysOpen}
use Rattle.rkt_board.specs.declared.history.EventOf.{EventOf}
use Rattle.rkt_board.specs.declared.history.EventOf.TheVariants.{Trip}
use Rattle.rkt_board.specs.declared.log_record.RecordOf.{RecordOf}

-- a handle that has looked
pub looked_back : (old new : Handle) → new.wire ≡ old.wire → (0 < old.seen → new ≡ old) → (old.seen ≡ 0 → new.looked ≡ old.looked + 1) → HandsBack old new
looked_back old new wire again load = record { wire = wire; looked = no_less old.seen old.looked new.looked (λ some. ap (λ h. h.looked) (again some)) load; seen = λ some. ap (λ h. h.seen) (again some) }

-- a Trip more, where none stood yet
pub shows_new : {C S K : Type 0} (v ms : List (RecordOf C S K)) (by word moment : ℕ) → v ≡ ms ++ logged by (Trip word moment) ∷ [] → list_any is_trip (events ms) ≡ false → ShowsTrip (Some word) (events v)
shows_new v ms by word moment items none =
    let now : events v ≡ events ms ++ Trip word moment ∷ [] = ap events items ∙ map_push (λ m. m.event) ms (logged by (Trip word moment)) in
    (ap (list_any is_trip) now ∙ (any_push is_trip (events ms) (Trip word moment) ∙ grind (arith, common_steps)), ap trip_word now ∙ word_new (events ms) word moment none)

-- and its Down is left to be entered
pub may_down : {C S K : Type 0} (v ms : List (RecordOf C S K)) (by word moment : ℕ) → v ≡ ms ++ logged by (Trip word moment) ∷ [] → Ordered (events ms) → list_any is_trip (events ms) ≡ false → list_any is_close (events ms) ≡ false → MayDown v
may_down v ms by word moment items ordered none unclosed =
    let now : events v ≡ events ms ++ Trip word moment ∷ [] = ap events items ∙ map_push (λ m. m.event) ms (logged by (Trip word moment)) in
    let up : list_any is_down (events ms) ≡ false = is_not (list_any is_down (events ms)) refl (λ t. absurd (cc (down_tripped (events ms) ordered t, none))) in
    record {
      tripped = ap (list_any is_trip) now ∙ (any_push is_trip (events ms) (Trip word moment) ∙ grind (arith, common_steps));
      up = ap (list_any is_down) now ∙ (any_push is_down (events ms) (Trip word moment) ∙ grind (arith, common_steps, up));
      unclosed = ap (list_any is_close) now ∙ (any_push is_close (events ms) (Trip word moment) ∙ grind (arith, common_steps, unclosed));
    }

module _ {C S K : Type 0} (links : K → LinkMeaning) where
  -- a Trip ends nothing
  pub stays_open : (old new : List (RecordOf C S K)) (by : ℕ) → TripsAs by old new → StaysOpen links old new
  stays_open old new by (inl same) = record { opened = λ y number ask open_at. subst (λ ms. IsOpen links ms y number ask) (sym same) open_at; since = λ number moment there. subst (λ ms. list_any (admits_until number moment) (events ms) ≡ true) (sym same) there }
  stays_open old new by (inr (word, moment, items)) =
      let e : EventOf C S K = Trip word moment in
      let now : events new ≡ events old ++ e ∷ [] = ap events items ∙ map_push (λ m. m.event) old (logged by e) in
      record {
        opened = λ y number ask open_at. record {
          admitted = ap (list_any (admits_by number y)) now ∙ (any_push (admits_by number y) (events old) e ∙ grind (arith, common_steps, open_at.admitted));
          unended = ap (list_any (ends number)) now ∙ (any_push (ends number) (events old) e ∙ grind (arith, common_steps, open_at.unended));
          asks = ap (λ ms. slice_get (carries links ms) number) items ∙ (ap (λ asks. slice_get asks number) (carries_other links old (logged by e) refl) ∙ open_at.asks);
        };
        since = λ number moment there. ap (list_any (admits_until number moment)) now ∙ (any_push (admits_until number moment) (events old) e ∙ grind (arith, common_steps, there));
      }
