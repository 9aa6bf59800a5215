-- What a pass knows of the whole list by its own entries, and by what it has seen.
use Rattle.std.proofs.Common.{inl, inr, ◌⊎◌, ⊎_elim, zero, suc, ◌≡◌, ◌<◌, ◌+◌, ◌++◌, ℕ, cond, Bool, true, false, ◌==◌, ◌&&◌, ◌||◌, List, [], ◌∷◌, Option, Some, slice_get, refl, ap, ◌∙◌, sym, subst, arith}
use Rattle.std.proofs.lemmas.Grind.{common_steps}
use Rattle.std.proofs.lemmas.Bool.Decides.{nat_tests}
use Rattle.std.proofs.lemmas.List.Folds.{list_any-append}
use Rattle.std.specs.List.{list_any, AllByRecursion, count_by}
use Rattle.rkt_turn.specs.Booked.{StartsWith, of}
use Rattle.rkt_link.specs.Asked.{Asked}
use Rattle.rkt_link.specs.Link.{LinkMeaning}
use Rattle.rkt_board.proofs.Core.{by_steps}
use Rattle.rkt_board.proofs.Pushes.{any_push, count_push}
use Rattle.rkt_board.specs.Events.{is_admit, admits_by, ends, trip_of, InOrder, Ordered}
use Rattle.rkt_board.specs.Records.{events, OwnAs, IsOwn, asked_by, carried, carries}
use Rattle.rkt_board.specs.declared.history.EntryOf.{EntryOf}
use Rattle.rkt_board.specs.declared.history.EventOf.{EventOf}
use Rattle.rkt_board.specs.declared.history.EventOf.TheVariants.{Lift, Trip, Admit, End, Down, Close}
use Rattle.rkt_board.specs.declared.log_record.RecordOf.{RecordOf}

or_true : (b : Bool) → (b || true) ≡ true
or_true true = refl
or_true false = refl

or_cases : (a b : Bool) → (a || b) ≡ true → (a ≡ true) ⊎ (b ≡ true)
or_cases true b t = inl refl
or_cases false b t = inr t

false_by : (t : Bool) {x : Bool} → x ≡ t → (x ≡ true → ⊥) → x ≡ false
false_by true is f = absurd (f is)
false_by false is f = is

get_front : {X : Type 0} (xs ys : List X) (k : ℕ) (x : X) → slice_get xs k ≡ Some x → slice_get (xs ++ ys) k ≡ Some x
get_front [] ys k x found = absurd (cc found)
get_front (z ∷ zs) ys zero x found = found
get_front (z ∷ zs) ys (suc k) x found = get_front zs ys k x found

module _ {C S K : Type 0} where
  -- this worker ends this number
  abbrev ends_by : ℕ → ℕ → EventOf C S K → Bool
  ends_by number by (End n e m b) = n == number && b == by
  ends_by number by (Lift calls) = false
  ends_by number by (Trip w m) = false
  ends_by number by (Admit n m b) = false
  ends_by number by (Down calls) = false
  ends_by number by (Close m) = false

  ends_of : (n by : ℕ) (e : EventOf C S K) → ends_by n by e ≡ true → ends n e ≡ true
  ends_of n by (End k x m b) t = grind (arith, common_steps, nat_tests, t)
  ends_of n by (Admit k m b) t = absurd (cc t)
  ends_of n by (Trip w m) t = absurd (cc t)
  ends_of n by (Lift c) t = absurd (cc t)
  ends_of n by (Down c) t = absurd (cc t)
  ends_of n by (Close m) t = absurd (cc t)

  own_by : (n by mine : ℕ) (e : EventOf C S K) → OwnAs mine e → ends_by n by e ≡ true → (mine == by) ≡ true
  own_by n by mine (End k x m b) o t = grind (arith, common_steps, nat_tests, t, o)
  own_by n by mine (Admit k m b) o t = absurd (cc t)
  own_by n by mine (Trip w m) o t = absurd (cc t)
  own_by n by mine (Lift c) o t = absurd (cc t)
  own_by n by mine (Down c) o t = absurd (cc t)
  own_by n by mine (Close m) o t = absurd (cc t)

  any_in : (n : ℕ) (q : Bool) (m : RecordOf C S K) (r : List (RecordOf C S K)) → q ≡ true → ends n m.event ≡ true → list_any (ends n) (events (cond q (m ∷ r) r)) ≡ true
  any_in n true m r is t = ap (λ b. b || list_any (ends n) (events r)) t
  any_in n false m r is t = absurd (cc is)

  any_past : (n : ℕ) (q : Bool) (m : RecordOf C S K) (r : List (RecordOf C S K)) → list_any (ends n) (events r) ≡ true → list_any (ends n) (events (cond q (m ∷ r) r)) ≡ true
  any_past n true m r t = ap (λ b. ends n m.event || b) t ∙ or_true (ends n m.event)
  any_past n false m r t = t

  -- the End of a pass is one of its own entries
  pub own_end : (n by : ℕ) (ms : List (RecordOf C S K)) → AllByRecursion IsOwn ms → list_any (ends_by n by) (events ms) ≡ true → list_any (ends n) (events (of (λ (m : RecordOf C S K). m.by) by ms)) ≡ true
  own_end n by [] own t = absurd (cc t)
  own_end n by (m ∷ ms) own t = ⊎_elim
      (λ (h : ends_by n by m.event ≡ true). any_in n (m.by == by) m (of (λ (m : RecordOf C S K). m.by) by ms) (own_by n by m.by m.event own.0 h) (ends_of n by m.event h))
      (λ (h : list_any (ends_by n by) (events ms) ≡ true). any_past n (m.by == by) m (of (λ (m : RecordOf C S K). m.by) by ms) (own_end n by ms own.1 h))
      (or_cases (ends_by n by m.event) (list_any (ends_by n by) (events ms)) t)

  -- an Admit has one `by`, and an End has that of its Admit
  pub record Sound (n : ℕ) (es : List (EventOf C S K)) : Type 0 where
    pub one : (b c : ℕ) → list_any (admits_by n b) es ≡ true → list_any (admits_by n c) es ≡ true → b ≡ c
    pub below : (b : ℕ) → list_any (admits_by n b) es ≡ true → n < count_by is_admit es
    pub same : list_any (ends n) es ≡ true → (b : ℕ) × (list_any (ends_by n b) es ≡ true) × (list_any (admits_by n b) es ≡ true)

  sound_quiet : (n : ℕ) (es : List (EventOf C S K)) (e : EventOf C S K) → ((b : ℕ) → admits_by n b e ≡ false) → ends n e ≡ false → is_admit e ≡ false → Sound n es → Sound n (es ++ e ∷ [])
  sound_quiet n es e none quiet other s = record {
    one = λ b c p q. s.one b c (grind (arith, common_steps, any_push (admits_by n b) es e, none b, p)) (grind (arith, common_steps, any_push (admits_by n c) es e, none c, q));
    below = λ b p. subst (λ (k : ℕ). n < k) (sym ((count_push is_admit es e).1 other)) (s.below b (grind (arith, common_steps, any_push (admits_by n b) es e, none b, p)));
    same = λ t. let h = s.same (grind (arith, common_steps, any_push (ends n) es e, quiet, t)) in (h.0, any_push (ends_by n h.0) es e ∙ ap (λ b. b || ends_by n h.0 e) h.1, any_push (admits_by n h.0) es e ∙ ap (λ b. b || admits_by n h.0 e) h.2);
  }

  sound_end : (n : ℕ) (es : List (EventOf C S K)) (k : ℕ) (x : EntryOf C S K) (m y : ℕ) → list_any (admits_by k y) es ≡ true → Sound n es → Sound n (es ++ End k x m y ∷ [])
  sound_end n es k x m y there s = let e : EventOf C S K = End k x m y in record {
    one = λ b c p q. s.one b c (grind (arith, common_steps, any_push (admits_by n b) es e, p)) (grind (arith, common_steps, any_push (admits_by n c) es e, q));
    below = λ b p. subst (λ (k : ℕ). n < k) (sym ((count_push is_admit es e).1 refl)) (s.below b (grind (arith, common_steps, any_push (admits_by n b) es e, p)));
    same = λ t. ⊎_elim
        (λ (h : list_any (ends n) es ≡ true). let g = s.same h in (g.0, any_push (ends_by n g.0) es e ∙ ap (λ b. b || ends_by n g.0 e) g.1, any_push (admits_by n g.0) es e ∙ ap (λ b. b || admits_by n g.0 e) g.2))
        (λ (h : (k == n) ≡ true). let at : k ≡ n = grind (arith, nat_tests, h) in (y, any_push (ends_by n y) es e ∙ grind (arith, common_steps, nat_tests, at), any_push (admits_by n y) es e ∙ ap (λ b. b || false) (subst (λ (j : ℕ). list_any (admits_by j y) es ≡ true) at there)))
        (or_cases (list_any (ends n) es) (k == n) (sym (any_push (ends n) es e) ∙ t));
  }

  sound_admit : (n : ℕ) (es : List (EventOf C S K)) (k m y : ℕ) → k ≡ count_by is_admit es → Sound n es → Sound n (es ++ Admit k m y ∷ [])
  sound_admit n es k m y next s = let e : EventOf C S K = Admit k m y in let c : ℕ = count_by is_admit es in let more : count_by is_admit (es ++ e ∷ []) ≡ c + 1 = (count_push is_admit es e).0 refl in record {
    one = λ b d p q. let x = any_push (admits_by n b) es e in let z = any_push (admits_by n d) es e in grind (arith, common_steps, nat_tests, x, z, p, q, s.one b d, s.below b, s.below d, next);
    below = λ b p. grind (arith, common_steps, nat_tests, any_push (admits_by n b) es e, p, s.below b, next, more);
    same = λ t. let h = s.same (grind (arith, common_steps, any_push (ends n) es e, t)) in (h.0, any_push (ends_by n h.0) es e ∙ ap (λ b. b || ends_by n h.0 e) h.1, any_push (admits_by n h.0) es e ∙ ap (λ b. b || admits_by n h.0 e) h.2);
  }

  sound_step : (n : ℕ) (es : List (EventOf C S K)) (e : EventOf C S K) → Sound n es → InOrder es e → Sound n (es ++ e ∷ [])
  sound_step n es (Admit k m y) s o = sound_admit n es k m y o.1.2 s
  sound_step n es (End k x m y) s o = sound_end n es k x m y o.1.0 s
  sound_step n es (Trip w m) s o = sound_quiet n es (Trip w m) (λ b. refl) refl refl s
  sound_step n es (Lift c) s o = sound_quiet n es (Lift c) (λ b. refl) refl refl s
  sound_step n es (Down c) s o = sound_quiet n es (Down c) (λ b. refl) refl refl s
  sound_step n es (Close m) s o = sound_quiet n es (Close m) (λ b. refl) refl refl s

  pub sound : (n : ℕ) (es : List (EventOf C S K)) → Ordered es → Sound n es
  sound n es o = by_steps (Sound n) (sound_step n) record { one = λ b c p q. absurd (cc p); below = λ b p. absurd (cc p); same = λ t. absurd (cc t) } es o

  -- a number that a pass admitted, and of which it has no End, has none in the whole list
  pub none_by_mine : (n by : ℕ) (ms mine : List (RecordOf C S K)) → Ordered (events ms) → AllByRecursion IsOwn ms → of (λ (m : RecordOf C S K). m.by) by ms ≡ mine → list_any (admits_by n by) (events ms) ≡ true → list_any (ends n) (events mine) ≡ false
      → list_any (ends n) (events ms) ≡ false
  none_by_mine n by ms mine ordered own is there none = false_by (list_any (ends n) (events ms)) refl (λ t. let s = sound n (events ms) ordered in let h = s.same t in let e : h.0 ≡ by = s.one h.0 by h.2 there in
      let mark_there = own_end n by ms own (subst (λ (b : ℕ). list_any (ends_by n b) (events ms) ≡ true) e h.1) in cc (ap (λ l. list_any (ends n) (events l)) is, mark_there, none))

  events_append : (xs ys : List (RecordOf C S K)) → events (xs ++ ys) ≡ events xs ++ events ys
  events_append [] ys = refl
  events_append (x ∷ xs) ys = ap (λ l. x.event ∷ l) (events_append xs ys)

  -- what stands in a front stands in the whole
  pub any_on : (p : EventOf C S K → Bool) (seen ms : List (RecordOf C S K)) → StartsWith ms seen → list_any p (events seen) ≡ true → list_any p (events ms) ≡ true
  any_on p seen ms s t = ap (λ l. list_any p (events l)) s.1 ∙ (ap (list_any p) (events_append seen s.0) ∙ (list_any-append p (events seen) (events s.0) ∙ ap (λ b. b || list_any p (events s.0)) t))

  carried_front : (links : K → LinkMeaning) (e : EventOf C S K) (a : Option Asked) (xs ys : List (Option Asked)) → carried links e a (xs ++ ys) ≡ carried links e a xs ++ ys
  carried_front links (Admit n t b) a xs ys = refl
  carried_front links (Trip w t) a xs ys = refl
  carried_front links (Lift c) a xs ys = refl
  carried_front links (End n x t b) a xs ys = refl
  carried_front links (Down c) a xs ys = refl
  carried_front links (Close t) a xs ys = refl

  carries_append : (links : K → LinkMeaning) (xs ys : List (RecordOf C S K)) → carries links (xs ++ ys) ≡ carries links xs ++ carries links ys
  carries_append links [] ys = refl
  carries_append links (x ∷ xs) ys = ap (carried links x.event (asked_by links x.link)) (carries_append links xs ys) ∙ carried_front links x.event (asked_by links x.link) (carries links xs) (carries links ys)

  pub asks_on : (links : K → LinkMeaning) (seen ms : List (RecordOf C S K)) (k : ℕ) (a : Option Asked) → StartsWith ms seen → slice_get (carries links seen) k ≡ Some a → slice_get (carries links ms) k ≡ Some a
  asks_on links seen ms k a s t = ap (λ l. slice_get l k) (ap (carries links) s.1 ∙ carries_append links seen s.0) ∙ get_front (carries links seen) (carries links s.0) k a t

  trip_front : (xs ys : List (EventOf C S K)) (trip : ℕ × ℕ) → trip_of xs ≡ Some trip → trip_of (xs ++ ys) ≡ Some trip
  trip_front [] ys trip found = absurd (cc found)
  trip_front (Trip w m ∷ xs) ys trip found = found
  trip_front (Lift c ∷ xs) ys trip found = trip_front xs ys trip found
  trip_front (Admit n m b ∷ xs) ys trip found = trip_front xs ys trip found
  trip_front (End n x m b ∷ xs) ys trip found = trip_front xs ys trip found
  trip_front (Down c ∷ xs) ys trip found = trip_front xs ys trip found
  trip_front (Close m ∷ xs) ys trip found = trip_front xs ys trip found

  -- a Trip that was seen is the Trip of the whole
  pub trip_on : (seen ms : List (RecordOf C S K)) (trip : ℕ × ℕ) → StartsWith ms seen → trip_of (events seen) ≡ Some trip → trip_of (events ms) ≡ Some trip
  trip_on seen ms trip s found = ap (λ l. trip_of (events l)) s.1 ∙ (ap trip_of (events_append seen s.0) ∙ trip_front (events seen) (events s.0) trip found)
