-- Lists that get one element more.
use Rattle.std.proofs.Common.{inl, inr, ◌⊎◌, zero, suc, ◌≡◌, ◌<◌, ◌≤◌, ◌+◌, ◌++◌, ℕ, max, Bool, true, false, ◌==◌, ◌||◌, List, [], ◌∷◌, Some, is_some, slice_get, length, map, cond, if◌then◌else◌, refl, ap, ◌∙◌, sym, subst, append_assoc, append-nil, arith}
use Rattle.std.proofs.lemmas.Grind.{common_steps}
use Rattle.std.proofs.lemmas.List.Folds.{list_any-append}
use Rattle.std.proofs.lemmas.Bool.Decides.{nat_tests}
use Rattle.std.specs.List.{list_any, AllByRecursion, count_by}
use Rattle.rkt_board.specs.After.{AfterFrom}
use Rattle.rkt_board.specs.Events.{is_trip, ends, moment_of, latest, ended_below, lift_calls, trip_of, trip_word, word_of, end_of}
use Rattle.rkt_board.specs.declared.history.EventOf.{EventOf}
use Rattle.rkt_board.specs.declared.history.EventOf.TheVariants.{Lift, Trip, Admit, End, Down, Close}
use Rattle.rkt_board.specs.declared.history.EntryOf.{EntryOf}

pub any_push : {X : Type 0} (p : X → Bool) (xs : List X) (x : X) → list_any p (xs ++ x ∷ []) ≡ (list_any p xs || p x)
any_push p xs x = list_any-append p xs (x ∷ []) ∙ grind (arith, common_steps)

pub count_push : {X : Type 0} (p : X → Bool) (xs : List X) (x : X) → (p x ≡ true → count_by p (xs ++ x ∷ []) ≡ count_by p xs + 1) × (p x ≡ false → count_by p (xs ++ x ∷ []) ≡ count_by p xs)
count_push p [] x = grind (arith, common_steps)
count_push p (y ∷ ys) x = grind (arith, common_steps, count_push p ys x)

-- what is not counted is not there
pub any_none : {X : Type 0} (p : X → Bool) (xs : List X) → count_by p xs ≡ 0 → list_any p xs ≡ false
any_none p [] none = refl
any_none p (x ∷ xs) none = grind (arith, common_steps, none, any_none p xs)

-- what is not there is not counted
pub none_any : {X : Type 0} (p : X → Bool) (xs : List X) → list_any p xs ≡ false → count_by p xs ≡ 0
none_any p [] none = refl
none_any p (x ∷ xs) none = grind (arith, common_steps, none, none_any p xs)

-- what is counted is there
pub any_some : {X : Type 0} (p : X → Bool) (xs : List X) → 0 < count_by p xs → list_any p xs ≡ true
any_some p [] some = absurd (omega (arith, some))
any_some p (x ∷ xs) some = grind (arith, common_steps, some, any_some p xs)

-- what is there is counted
pub some_any : {X : Type 0} (p : X → Bool) (xs : List X) → list_any p xs ≡ true → 0 < count_by p xs
some_any p [] any = absurd (cc any)
some_any p (x ∷ xs) any = grind (arith, common_steps, any, some_any p xs)

pub all_push : {X : Type 0} (P : X → Type 0) (xs : List X) (x : X) → AllByRecursion P xs → P x → AllByRecursion P (xs ++ x ∷ [])
all_push P [] x all here = (here, tt)
all_push P (y ∷ ys) x all here = (all.0, all_push P ys x all.1 here)

pub after_push : {X : Type 0} (May : List X → X → Type 0) (before xs : List X) (x : X) → AfterFrom May before xs → May (before ++ xs) x → AfterFrom May before (xs ++ x ∷ [])
after_push May before [] x all here = (subst (λ b. May b x) (append-nil before) here, tt)
after_push May before (y ∷ ys) x all here = (all.0, after_push May (before ++ y ∷ []) ys x all.1 (subst (λ b. May b x) (sym (append_assoc before (y ∷ []) ys)) here))

pub map_push : {X Y : Type 0} (f : X → Y) (xs : List X) (x : X) → map f (xs ++ x ∷ []) ≡ map f xs ++ f x ∷ []
map_push f [] x = refl
map_push f (y ∷ ys) x = ap (λ l. f y ∷ l) (map_push f ys x)

-- the last element and those before it
pub after_last : {X : Type 0} (May : List X → X → Type 0) (before xs : List X) (x : X) → AfterFrom May before (xs ++ x ∷ []) → AfterFrom May before xs × May (before ++ xs) x
after_last May before [] x all = (tt, subst (λ b. May b x) (sym (append-nil before)) all.0)
after_last May before (y ∷ ys) x all =
    let s = after_last May (before ++ y ∷ []) ys x all.1 in
    ((all.0, s.0), subst (λ b. May b x) (append_assoc before (y ∷ []) ys) s.1)

pub nat_cases : (k n : ℕ) → k ≤ n → (k < n) ⊎ (k ≡ n)
nat_cases zero zero le = inr refl
nat_cases zero (suc n) le = inl (omega arith)
nat_cases (suc k) zero le = absurd (omega (arith, le))
nat_cases (suc k) (suc n) le = elim (nat_cases k n (omega (arith, le))) [ inl lt ↦ inl (omega (arith, lt)) | inr e ↦ inr (ap suc e) ]

-- the last one
pub get_last : {X : Type 0} (xs : List X) (y : X) → slice_get (xs ++ y ∷ []) (length xs) ≡ Some y
get_last [] y = refl
get_last (z ∷ zs) y = get_last zs y

-- one before the last
pub get_within : {X : Type 0} (xs : List X) (y : X) (k : ℕ) → k < length xs → slice_get (xs ++ y ∷ []) k ≡ slice_get xs k
get_within [] y k lt = absurd (omega (arith, lt))
get_within (z ∷ zs) y zero lt = refl
get_within (z ∷ zs) y (suc k) lt = get_within zs y k (omega (arith, lt))

module _ {C S K : Type 0} where
  pub latest_push : (xs : List (EventOf C S K)) (e : EventOf C S K) → latest (xs ++ e ∷ []) ≡ max (latest xs) (moment_of e)
  latest_push [] e = omega arith
  latest_push (x ∷ xs) e = omega (arith, latest_push xs e)

  -- an entry of the front
  pub end_of_front : (k : ℕ) (xs ys : List (EventOf C S K)) (e : EntryOf C S K) → end_of k xs ≡ Some e → end_of k (xs ++ ys) ≡ Some e
  end_of_front k [] ys e found = absurd (cc found)
  end_of_front k (Lift calls ∷ xs) ys e found = end_of_front k xs ys e found
  end_of_front k (Trip v t ∷ xs) ys e found = end_of_front k xs ys e found
  end_of_front k (Down calls ∷ xs) ys e found = end_of_front k xs ys e found
  end_of_front k (Admit n m b ∷ xs) ys e found = end_of_front k xs ys e found
  end_of_front k (Close m ∷ xs) ys e found = end_of_front k xs ys e found
  end_of_front k (End n x m b ∷ xs) ys e found = front_step (n == k) found (end_of_front k xs ys e)
    where
      front_step : (t : Bool) → (if t then Some x else end_of k xs) ≡ Some e → (end_of k xs ≡ Some e → end_of k (xs ++ ys) ≡ Some e) → (if t then Some x else end_of k (xs ++ ys)) ≡ Some e
      front_step true f more = f
      front_step false f more = more f

  -- an entry behind a front without one
  pub end_of_past : (k : ℕ) (xs ys : List (EventOf C S K)) → list_any (ends k) xs ≡ false → end_of k (xs ++ ys) ≡ end_of k ys
  end_of_past k [] ys none = refl
  end_of_past k (Lift calls ∷ xs) ys none = end_of_past k xs ys none
  end_of_past k (Trip v t ∷ xs) ys none = end_of_past k xs ys none
  end_of_past k (Down calls ∷ xs) ys none = end_of_past k xs ys none
  end_of_past k (Admit n m b ∷ xs) ys none = end_of_past k xs ys none
  end_of_past k (Close m ∷ xs) ys none = end_of_past k xs ys none
  end_of_past k (End n x m b ∷ xs) ys none = past_step (n == k) none (end_of_past k xs ys)
    where
      past_step : (t : Bool) → (t || list_any (ends k) xs) ≡ false → (list_any (ends k) xs ≡ false → end_of k (xs ++ ys) ≡ end_of k ys) → (if t then Some x else end_of k (xs ++ ys)) ≡ end_of k ys
      past_step true f more = absurd (cc f)
      past_step false f more = more f

  -- a number with an End has an entry
  pub has_end : (k : ℕ) (xs : List (EventOf C S K)) → list_any (ends k) xs ≡ is_some (end_of k xs)
  has_end k [] = refl
  has_end k (Lift calls ∷ xs) = has_end k xs
  has_end k (Trip v t ∷ xs) = has_end k xs
  has_end k (Down calls ∷ xs) = has_end k xs
  has_end k (Admit n m b ∷ xs) = has_end k xs
  has_end k (Close m ∷ xs) = has_end k xs
  has_end k (End n x m b ∷ xs) = end_step (n == k) (has_end k xs)
    where
      end_step : (t : Bool) → list_any (ends k) xs ≡ is_some (end_of k xs) → (t || list_any (ends k) xs) ≡ is_some (if t then Some x else end_of k xs)
      end_step true same = refl
      end_step false same = same

  -- the entry of its own number
  pub end_of_this : (k n : ℕ) (e : EntryOf C S K) (m b : ℕ) → k ≡ n → end_of k (End n e m b ∷ []) ≡ Some e
  end_of_this k n e m b same = grind (arith, nat_tests, same)

  -- an event behind a Trip
  pub trip_old : (xs : List (EventOf C S K)) (e : EventOf C S K) → list_any is_trip xs ≡ true → trip_of (xs ++ e ∷ []) ≡ trip_of xs
  trip_old [] e any = absurd (cc any)
  trip_old (Trip w m ∷ xs) e any = refl
  trip_old (Lift calls ∷ xs) e any = trip_old xs e any
  trip_old (Admit n m b ∷ xs) e any = trip_old xs e any
  trip_old (End n x m b ∷ xs) e any = trip_old xs e any
  trip_old (Down calls ∷ xs) e any = trip_old xs e any
  trip_old (Close m ∷ xs) e any = trip_old xs e any

  pub word_old : (xs : List (EventOf C S K)) (e : EventOf C S K) → list_any is_trip xs ≡ true → trip_word (xs ++ e ∷ []) ≡ trip_word xs
  word_old xs e any = ap word_of (trip_old xs e any)

  -- the first Trip
  pub trip_new : (xs : List (EventOf C S K)) (w m : ℕ) → list_any is_trip xs ≡ false → trip_of (xs ++ Trip w m ∷ []) ≡ Some (w, m)
  trip_new [] w m none = refl
  trip_new (Trip v n ∷ xs) w m none = absurd (cc none)
  trip_new (Lift calls ∷ xs) w m none = trip_new xs w m none
  trip_new (Admit n t b ∷ xs) w m none = trip_new xs w m none
  trip_new (End n x t b ∷ xs) w m none = trip_new xs w m none
  trip_new (Down calls ∷ xs) w m none = trip_new xs w m none
  trip_new (Close t ∷ xs) w m none = trip_new xs w m none

  pub word_new : (xs : List (EventOf C S K)) (w m : ℕ) → list_any is_trip xs ≡ false → trip_word (xs ++ Trip w m ∷ []) ≡ w
  word_new xs w m none = ap word_of (trip_new xs w m none)

  pub ended_same : (n : ℕ) (xs : List (EventOf C S K)) (e : EventOf C S K) → ((k : ℕ) → ends k e ≡ false) → ended_below n (xs ++ e ∷ []) ≡ ended_below n xs
  ended_same zero xs e other = refl
  ended_same (suc n) xs e other = let t : list_any (ends n) (xs ++ e ∷ []) ≡ list_any (ends n) xs = grind (arith, common_steps, any_push (ends n) xs e, other n) in λ i. cond (t i) 1 0 + ended_same n xs e other i

module _ {C S K : Type 0} where
  -- what stands first stays
  pub lift_push : (es : List (EventOf C S K)) (e : EventOf C S K) → 0 < length es → lift_calls (es ++ e ∷ []) ≡ lift_calls es
  lift_push [] e some = absurd (omega (arith, some))
  lift_push (Lift calls ∷ es) e some = refl
  lift_push (Trip w m ∷ es) e some = refl
  lift_push (Admit n m b ∷ es) e some = refl
  lift_push (End n x m b ∷ es) e some = refl
  lift_push (Down calls ∷ es) e some = refl
  lift_push (Close m ∷ es) e some = refl
