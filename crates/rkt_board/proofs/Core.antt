-- What holds of every ordered list of events.
use Rattle.std.proofs.Common.{◌≡◌, ◌<◌, ◌≤◌, ◌+◌, ◌++◌, ◌↔◌, ℕ, nat_lt, Bool, true, false, ◌==◌, List, [], ◌∷◌, Option, Some, None, IfSome, is_some, if◌then◌else◌, refl, ap, ◌∙◌, sym, subst, append_assoc, append-nil, arith}
use Rattle.std.proofs.lemmas.Grind.{common_steps}
use Rattle.std.proofs.lemmas.Bool.Decides.{nat_tests}
use Rattle.std.specs.List.{list_any, count_by}
use Rattle.rkt_board.proofs.Pushes.{any_push, count_push, any_some, some_any, none_any, has_end, word_old, word_new}
use Rattle.rkt_board.specs.After.{AfterFrom}
use Rattle.rkt_board.specs.Events.{is_trip, is_admit, is_down, is_close, admits, admits_by, admitted, ends, end_of, trip_of, trip_word, word_of, InOrder, Ordered, IsClosed, EachEndsOnce}
use Rattle.rkt_board.specs.declared.history.EventOf.{EventOf}
use Rattle.rkt_board.specs.declared.history.EventOf.TheVariants.{Lift, Trip, Admit, End, Down, Close}

-- a fact that each element keeps
pub after_keeps : {X : Type 0} (May : List X → X → Type 0) (P : List X → Type 0) → ((before : List X) (x : X) → P before → May before x → P (before ++ x ∷ [])) → (before xs : List X) → P before → AfterFrom May before xs → P (before ++ xs)
after_keeps May P step before [] p all = subst P (sym (append-nil before)) p
after_keeps May P step before (x ∷ xs) p all = subst P (append_assoc before (x ∷ []) xs) (after_keeps May P step (before ++ x ∷ []) xs (step before x p all.0) all.1)

-- those behind a front
after_front : {X : Type 0} (May : List X → X → Type 0) (before xs ys : List X) → AfterFrom May before (xs ++ ys) → AfterFrom May (before ++ xs) ys
after_front May before [] ys all = subst (λ b. AfterFrom May b ys) (sym (append-nil before)) all
after_front May before (x ∷ xs) ys all = subst (λ b. AfterFrom May b ys) (append_assoc before (x ∷ []) xs) (after_front May (before ++ x ∷ []) xs ys all.1)

-- one number more was admitted
numbered_this : (number k count more all : ℕ) → ((number == k) ≡ true → more ≡ count + 1) → ((number == k) ≡ false → more ≡ count)
    → count ≡ (if nat_lt k number then 1 else 0) → all ≡ number + 1 → more ≡ (if nat_lt k all then 1 else 0)
numbered_this number k count more all here other before grown = grind (arith, nat_tests)

below : (c k n : ℕ) → 0 < c → c ≡ (if nat_lt k n then 1 else 0) → k < n
below c k n some is = grind (arith, nat_tests)

above : (c k n : ℕ) → k < n → c ≡ (if nat_lt k n then 1 else 0) → 0 < c
above c k n less is = grind (arith, nat_tests)

-- one at most, and one where there is one
one_where : (c k n : ℕ) → c ≤ 1 → (0 < c → k < n) → (k < n → 0 < c) → c ≡ (if nat_lt k n then 1 else 0)
one_where c k n most from to = grind (arith, nat_tests)

-- what is none is not some
pub none_some : {X : Type 0} (o : Option X) → o ≡ None → is_some o ≡ true → ⊥
none_some None none some = absurd (cc some)
none_some (Some x) none some = absurd (cc none)

pub false_true : false ≡ true → ⊥
false_true e = absurd (cc e)

module _ {C S K : Type 0} where
  pub by_steps : (P : List (EventOf C S K) → Type 0) → ((before : List (EventOf C S K)) (e : EventOf C S K) → P before → InOrder before e → P (before ++ e ∷ [])) → P [] → (es : List (EventOf C S K)) → Ordered es → P es
  by_steps P step start es ordered = after_keeps InOrder P step [] es start ordered

  -- the numbers below the count of Admits were admitted once, and no other was
  abbrev Numbered : List (EventOf C S K) → Type 0
  Numbered es = (k : ℕ) → count_by (admits k) es ≡ (if nat_lt k (admitted es) then 1 else 0)

  numbered_other : (b : List (EventOf C S K)) (e : EventOf C S K) → ((k : ℕ) → admits k e ≡ false) → is_admit e ≡ false → Numbered b → Numbered (b ++ e ∷ [])
  numbered_other b e none other h k =
      (count_push (admits k) b e).1 (none k) ∙ subst (λ n. count_by (admits k) b ≡ (if nat_lt k n then 1 else 0)) (sym ((count_push is_admit b e).1 other)) (h k)

  numbered_step : (b : List (EventOf C S K)) (e : EventOf C S K) → Numbered b → InOrder b e → Numbered (b ++ e ∷ [])
  numbered_step b (Lift calls) h o = numbered_other b (Lift calls) (λ k. refl) refl h
  numbered_step b (Trip w m) h o = numbered_other b (Trip w m) (λ k. refl) refl h
  numbered_step b (End n x m y) h o = numbered_other b (End n x m y) (λ k. refl) refl h
  numbered_step b (Down calls) h o = numbered_other b (Down calls) (λ k. refl) refl h
  numbered_step b (Close m) h o = numbered_other b (Close m) (λ k. refl) refl h
  numbered_step b (Admit n m y) h o = λ k.
      let push = count_push (admits k) b (Admit n m y) in
      numbered_this n k (count_by (admits k) b) (count_by (admits k) (b ++ Admit n m y ∷ [])) (admitted (b ++ Admit n m y ∷ [])) push.0 push.1
      (subst (λ c. count_by (admits k) b ≡ (if nat_lt k c then 1 else 0)) (sym o.1.2) (h k))
      ((count_push is_admit b (Admit n m y)).0 refl ∙ ap (λ c. c + 1) (sym o.1.2))

  pub numbered : (es : List (EventOf C S K)) → Ordered es → (k : ℕ) → count_by (admits k) es ≡ (if nat_lt k (admitted es) then 1 else 0)
  numbered = by_steps Numbered numbered_step (λ k. grind (arith, nat_tests))

  -- a number that was admitted is below the count of Admits, and such a number was admitted
  pub given_below : (k : ℕ) (es : List (EventOf C S K)) → Ordered es → list_any (admits k) es ≡ true → k < admitted es
  given_below k es ordered there = below (count_by (admits k) es) k (admitted es) (some_any (admits k) es there) (numbered es ordered k)

  pub below_given : (k : ℕ) (es : List (EventOf C S K)) → Ordered es → k < admitted es → list_any (admits k) es ≡ true
  below_given k es ordered less = any_some (admits k) es (above (count_by (admits k) es) k (admitted es) less (numbered es ordered k))

  -- who admits a number admits it
  pub any_by : (n y : ℕ) (b : List (EventOf C S K)) → list_any (admits_by n y) b ≡ true → list_any (admits n) b ≡ true
  any_by n y [] t = absurd (cc t)
  any_by n y (Admit k m x ∷ b) t = grind (arith, common_steps, nat_tests, t, any_by n y b)
  any_by n y (Lift calls ∷ b) t = any_by n y b t
  any_by n y (Trip w m ∷ b) t = any_by n y b t
  any_by n y (End k x m z ∷ b) t = any_by n y b t
  any_by n y (Down calls ∷ b) t = any_by n y b t
  any_by n y (Close m ∷ b) t = any_by n y b t

  -- a number that has an End was admitted
  abbrev Ended : ℕ → List (EventOf C S K) → Type 0
  Ended k es = list_any (ends k) es ≡ true → list_any (admits k) es ≡ true

  ended_other : (k : ℕ) (b : List (EventOf C S K)) (e : EventOf C S K) → ends k e ≡ false → Ended k b → Ended k (b ++ e ∷ [])
  ended_other k b e other h t = any_push (admits k) b e ∙ grind (arith, common_steps, h (grind (arith, common_steps, any_push (ends k) b e, other, t)))

  ended_this : (k n : ℕ) (b : List (EventOf C S K)) (e : EventOf C S K) (t : Bool) → (n == k) ≡ t → ends k e ≡ t → list_any (admits n) b ≡ true → Ended k b → Ended k (b ++ e ∷ [])
  ended_this k n b e true same is there h u =
      let number : n ≡ k = grind (arith, nat_tests, same) in
      any_push (admits k) b e ∙ grind (arith, common_steps, subst (λ (j : ℕ). list_any (admits j) b ≡ true) number there)
  ended_this k n b e false same is there h u = ended_other k b e is h u

  ended_step : (k : ℕ) (b : List (EventOf C S K)) (e : EventOf C S K) → Ended k b → InOrder b e → Ended k (b ++ e ∷ [])
  ended_step k b (Lift calls) h o = ended_other k b (Lift calls) refl h
  ended_step k b (Trip w m) h o = ended_other k b (Trip w m) refl h
  ended_step k b (Admit n m y) h o = ended_other k b (Admit n m y) refl h
  ended_step k b (Down calls) h o = ended_other k b (Down calls) refl h
  ended_step k b (Close m) h o = ended_other k b (Close m) refl h
  ended_step k b (End n x m y) h o = ended_this k n b (End n x m y) (n == k) refl refl (any_by n y b o.1.0) h

  pub ended_given : (k : ℕ) (es : List (EventOf C S K)) → Ordered es → list_any (ends k) es ≡ true → list_any (admits k) es ≡ true
  ended_given k = by_steps (Ended k) (ended_step k) (λ t. absurd (cc t))

  once_other : (k : ℕ) (b : List (EventOf C S K)) (e : EventOf C S K) → ends k e ≡ false → count_by (ends k) b ≤ 1 → count_by (ends k) (b ++ e ∷ []) ≤ 1
  once_other k b e other h = omega (arith, (count_push (ends k) b e).1 other, h)

  once_this : (k : ℕ) (b : List (EventOf C S K)) (e : EventOf C S K) (t : Bool) → ends k e ≡ t → (ends k e ≡ true → list_any (ends k) b ≡ false) → count_by (ends k) b ≤ 1 → count_by (ends k) (b ++ e ∷ []) ≤ 1
  once_this k b e true is none h = omega (arith, (count_push (ends k) b e).0 is, none_any (ends k) b (none is))
  once_this k b e false is none h = once_other k b e is h

  once_step : (k : ℕ) (b : List (EventOf C S K)) (e : EventOf C S K) → count_by (ends k) b ≤ 1 → InOrder b e → count_by (ends k) (b ++ e ∷ []) ≤ 1
  once_step k b (Lift calls) h o = once_other k b (Lift calls) refl h
  once_step k b (Trip w m) h o = once_other k b (Trip w m) refl h
  once_step k b (Admit n m y) h o = once_other k b (Admit n m y) refl h
  once_step k b (Down calls) h o = once_other k b (Down calls) refl h
  once_step k b (Close m) h o = once_other k b (Close m) refl h
  once_step k b (End n x m y) h o = once_this k b (End n x m y) (n == k) refl (λ t. subst (λ (j : ℕ). list_any (ends j) b ≡ false) (grind (arith, nat_tests, t)) o.1.1) h

  -- each number has at most one End
  pub ended_once : (k : ℕ) (es : List (EventOf C S K)) → Ordered es → count_by (ends k) es ≤ 1
  ended_once k es ordered = by_steps (λ es. count_by (ends k) es ≤ 1) (once_step k) (omega arith) es ordered

  -- there is at most one Trip, and it has a word
  abbrev Tripped : List (EventOf C S K) → Type 0
  Tripped es = (count_by is_trip es ≤ 1) × (list_any is_trip es ≡ true → 0 < trip_word es)

  tripped_other : (b : List (EventOf C S K)) (e : EventOf C S K) → is_trip e ≡ false → Tripped b → Tripped (b ++ e ∷ [])
  tripped_other b e other h = (
    omega (arith, (count_push is_trip b e).1 other, h.0),
    λ t.
        let u : list_any is_trip b ≡ true = grind (arith, common_steps, any_push is_trip b e, other, t) in rw (word_old b e u) (h.1 u),
  )

  tripped_step : (b : List (EventOf C S K)) (e : EventOf C S K) → Tripped b → InOrder b e → Tripped (b ++ e ∷ [])
  tripped_step b (Lift calls) h o = tripped_other b (Lift calls) refl h
  tripped_step b (Admit n m y) h o = tripped_other b (Admit n m y) refl h
  tripped_step b (End n x m y) h o = tripped_other b (End n x m y) refl h
  tripped_step b (Down calls) h o = tripped_other b (Down calls) refl h
  tripped_step b (Close m) h o = tripped_other b (Close m) refl h
  tripped_step b (Trip w m) h o = (omega (arith, (count_push is_trip b (Trip w m)).0 refl, none_any is_trip b o.1.1), λ t. rw (word_new b w m o.1.1) o.1.2)

  tripped_all : (es : List (EventOf C S K)) → Ordered es → Tripped es
  tripped_all = by_steps Tripped tripped_step (omega arith, λ t. absurd (cc t))

  pub one_trip : (es : List (EventOf C S K)) → Ordered es → count_by is_trip es ≤ 1
  one_trip es ordered = (tripped_all es ordered).0

  pub worded : (es : List (EventOf C S K)) → Ordered es → list_any is_trip es ≡ true → 0 < trip_word es
  worded es ordered = (tripped_all es ordered).1

  -- what is found as a Trip is one
  pub found_trip : (es : List (EventOf C S K)) (trip : ℕ × ℕ) → trip_of es ≡ Some trip → list_any is_trip es ≡ true
  found_trip [] trip found = absurd (cc found)
  found_trip (Trip w m ∷ es) trip found = refl
  found_trip (Lift calls ∷ es) trip found = found_trip es trip found
  found_trip (Admit n m y ∷ es) trip found = found_trip es trip found
  found_trip (End n x m y ∷ es) trip found = found_trip es trip found
  found_trip (Down calls ∷ es) trip found = found_trip es trip found
  found_trip (Close m ∷ es) trip found = found_trip es trip found

  -- where none is found, there is none
  pub none_found : (es : List (EventOf C S K)) → trip_of es ≡ None → list_any is_trip es ≡ false
  none_found [] none = refl
  none_found (Trip w m ∷ es) none = absurd (cc none)
  none_found (Lift calls ∷ es) none = none_found es none
  none_found (Admit n m y ∷ es) none = none_found es none
  none_found (End n x m y ∷ es) none = none_found es none
  none_found (Down calls ∷ es) none = none_found es none
  none_found (Close m ∷ es) none = none_found es none

  -- where there is no Trip, none is found
  pub no_trip : (es : List (EventOf C S K)) → list_any is_trip es ≡ false → trip_of es ≡ None
  no_trip [] none = refl
  no_trip (Trip w m ∷ es) none = absurd (cc none)
  no_trip (Lift calls ∷ es) none = no_trip es none
  no_trip (Admit n m b ∷ es) none = no_trip es none
  no_trip (End n x m b ∷ es) none = no_trip es none
  no_trip (Down calls ∷ es) none = no_trip es none
  no_trip (Close m ∷ es) none = no_trip es none

  pub tripped_word : (es : List (EventOf C S K)) (found : Option (ℕ × ℕ)) → found ≡ trip_of es → IfSome found (λ trip. Ordered es → 0 < trip.0)
  tripped_word es None is = tt
  tripped_word es (Some trip) is = λ ordered. subst (λ (n : ℕ). 0 < n) (sym (ap word_of is)) (worded es ordered (found_trip es trip (sym is)))

  -- a Down stands behind a Trip
  abbrev Downed : List (EventOf C S K) → Type 0
  Downed es = list_any is_down es ≡ true → list_any is_trip es ≡ true

  downed_other : (b : List (EventOf C S K)) (e : EventOf C S K) → is_down e ≡ false → Downed b → Downed (b ++ e ∷ [])
  downed_other b e other h t = any_push is_trip b e ∙ grind (arith, common_steps, h (grind (arith, common_steps, any_push is_down b e, other, t)))

  downed_step : (b : List (EventOf C S K)) (e : EventOf C S K) → Downed b → InOrder b e → Downed (b ++ e ∷ [])
  downed_step b (Lift calls) h o = downed_other b (Lift calls) refl h
  downed_step b (Trip w m) h o = downed_other b (Trip w m) refl h
  downed_step b (Admit n m y) h o = downed_other b (Admit n m y) refl h
  downed_step b (End n x m y) h o = downed_other b (End n x m y) refl h
  downed_step b (Close m) h o = downed_other b (Close m) refl h
  downed_step b (Down calls) h o = λ t. any_push is_trip b (Down calls) ∙ grind (arith, common_steps, o.1.0)

  pub down_tripped : (es : List (EventOf C S K)) → Ordered es → list_any is_down es ≡ true → list_any is_trip es ≡ true
  down_tripped = by_steps Downed downed_step (λ t. absurd (cc t))

  -- nothing is admitted behind a Trip
  pub none_admitted : (before es : List (EventOf C S K)) → AfterFrom InOrder before es → list_any is_trip before ≡ true → admitted es ≡ 0
  none_admitted before [] all t = refl
  none_admitted before (Admit n m y ∷ es) all t = absurd (cc (all.0.1.1, t))
  none_admitted before (Trip w m ∷ es) all t = absurd (cc (all.0.1.1, t))
  none_admitted before (Lift calls ∷ es) all t = none_admitted (before ++ Lift calls ∷ []) es all.1 (any_push is_trip before (Lift calls) ∙ grind (arith, common_steps, t))
  none_admitted before (End n x m y ∷ es) all t = none_admitted (before ++ End n x m y ∷ []) es all.1 (any_push is_trip before (End n x m y) ∙ grind (arith, common_steps, t))
  none_admitted before (Down calls ∷ es) all t = none_admitted (before ++ Down calls ∷ []) es all.1 (any_push is_trip before (Down calls) ∙ grind (arith, common_steps, t))
  none_admitted before (Close m ∷ es) all t = none_admitted (before ++ Close m ∷ []) es all.1 (any_push is_trip before (Close m) ∙ grind (arith, common_steps, t))

  pub admits_before : (es front rest : List (EventOf C S K)) → Ordered es → es ≡ front ++ rest → list_any is_trip front ≡ true → admitted rest ≡ 0
  admits_before es front rest ordered parts t = none_admitted front rest (after_front InOrder [] front rest (subst Ordered parts ordered)) t

  -- a Close finds none open, and a Down where there is a Trip
  abbrev Out : List (EventOf C S K) → Type 0
  Out es = list_any is_close es ≡ true → ((k : ℕ) → list_any (admits k) es ≡ list_any (ends k) es) × (list_any is_down es ≡ list_any is_trip es)

  out_other : (b : List (EventOf C S K)) (e : EventOf C S K) → is_close e ≡ false → list_any is_close b ≡ false → Out (b ++ e ∷ [])
  out_other b e f o t = absurd (grind (arith, common_steps, any_push is_close b e, f, o, t))

  out_step : (b : List (EventOf C S K)) (e : EventOf C S K) → Out b → InOrder b e → Out (b ++ e ∷ [])
  out_step b (Close m) h o = λ t. (
    λ k. any_push (admits k) b (Close m) ∙ grind (arith, common_steps, any_push (ends k) b (Close m), o.1.1 k),
    any_push is_down b (Close m) ∙ grind (arith, common_steps, any_push is_trip b (Close m), o.1.2),
  )
  out_step b (Lift calls) h o = out_other b (Lift calls) refl o.0
  out_step b (Trip w m) h o = out_other b (Trip w m) refl o.0
  out_step b (Admit n m y) h o = out_other b (Admit n m y) refl o.0
  out_step b (End n x m y) h o = out_other b (End n x m y) refl o.0
  out_step b (Down calls) h o = out_other b (Down calls) refl o.0

  pub closed_out : (es : List (EventOf C S K)) → Ordered es → list_any is_close es ≡ true → ((k : ℕ) → list_any (admits k) es ≡ list_any (ends k) es) × (list_any is_down es ≡ list_any is_trip es)
  closed_out = by_steps Out out_step (λ t. absurd (cc t))

  -- a Close is the last event
  abbrev Last : List (EventOf C S K) → Type 0
  Last es = list_any is_close es ≡ true → IsClosed es

  last_other : (b : List (EventOf C S K)) (e : EventOf C S K) → is_close e ≡ false → list_any is_close b ≡ false → Last (b ++ e ∷ [])
  last_other b e f o t = absurd (grind (arith, common_steps, any_push is_close b e, f, o, t))

  last_step : (b : List (EventOf C S K)) (e : EventOf C S K) → Last b → InOrder b e → Last (b ++ e ∷ [])
  last_step b (Close m) h o = λ t. (b, m, refl)
  last_step b (Lift calls) h o = last_other b (Lift calls) refl o.0
  last_step b (Trip w m) h o = last_other b (Trip w m) refl o.0
  last_step b (Admit n m y) h o = last_other b (Admit n m y) refl o.0
  last_step b (End n x m y) h o = last_other b (End n x m y) refl o.0
  last_step b (Down calls) h o = last_other b (Down calls) refl o.0

  pub closes_last : (es : List (EventOf C S K)) → Ordered es → list_any is_close es ≡ true → IsClosed es
  closes_last = by_steps Last last_step (λ t. absurd (cc t))

  pub last_closes : (es : List (EventOf C S K)) → IsClosed es → list_any is_close es ≡ true
  last_closes es closed = ap (list_any is_close) closed.2 ∙ (any_push is_close closed.0 (Close closed.1) ∙ grind (arith, common_steps))

  -- in a closed list each number that was admitted has one End
  pub ends_each : (es : List (EventOf C S K)) → Ordered es → list_any is_close es ≡ true → EachEndsOnce es
  ends_each es ordered closed k =
      let same = (closed_out es ordered closed).0 k in
      one_where (count_by (ends k) es) k (admitted es) (ended_once k es ordered)
      (λ some. given_below k es ordered (same ∙ any_some (ends k) es some))
      (λ less. some_any (ends k) es (sym same ∙ below_given k es ordered less))

  -- in a closed history a number has an entry exactly where it was admitted
  pub closed_entry : (k : ℕ) (es : List (EventOf C S K)) → Ordered es → IsClosed es → (is_some (end_of k es) ≡ true) ↔ (k < admitted es)
  closed_entry k es ordered closed =
      let same = (closed_out es ordered (last_closes es closed)).0 k in (
        λ some. given_below k es ordered (same ∙ has_end k es ∙ some),
        λ less. sym (has_end k es) ∙ sym same ∙ below_given k es ordered less,
      )
