-- Entries, each noted at the place of its number.
use Rattle.std.proofs.Common.{zero, suc, ◌≡◌, ◌≤◌, ◌<◌, ◌+◌, ◌++◌, ℕ, Bool, true, false, ◌==◌, List, [], ◌∷◌, Option, Some, None, is_none, slice_get, slice_set, get_or, length, map, replicate, if◌then◌else◌, refl, ap, ◌∙◌, sym, subst, arith, Bor}
use Rattle.std.proofs.lemmas.Bool.Decides.{nat_tests}
use Rattle.std.specs.Option.{option_copied}
use Rattle.rkt_board.proofs.Pushes.{end_of_front}
use Rattle.rkt_board.specs.Events.{with_first, end_of, noted}
use Rattle.rkt_board.specs.declared.history.EventOf.{EventOf}
use Rattle.rkt_board.specs.declared.history.EventOf.TheVariants.{Lift, Trip, Admit, End, Down, Close}
use Rattle.rkt_board.specs.declared.history.EntryOf.{EntryOf}

-- the places as contracts see them
abbrev pub places : {E : Type 0} → List (Option (Bor E)) → List (Option E)
places {E} xs = map (λ entry. option_copied entry) xs

none_read : {X : Type 0} (o : Option X) → is_none o ≡ true → o ≡ None
none_read None is = refl
none_read (Some x) is = absurd (cc is)

-- an entry at a place that has none
pub entered : {E : Type 0} (xs : List (Option (Bor E))) (at : ℕ) (d : Option (Bor E)) (entry : Bor E) → at < length xs → d ≡ get_or xs at d → is_none d ≡ true
    → places (slice_set xs at (Some entry)) ≡ with_first at entry.now (places xs)
entered [] at d entry within is none = absurd (omega (arith, within))
entered (None ∷ xs) zero d entry within is none = refl
entered (Some x ∷ xs) zero d entry within is none = absurd (cc (none_read d none, is))
entered (x ∷ xs) (suc at) d entry within is none = ap (λ ps. option_copied x ∷ ps) (entered xs at d entry (omega (arith, within)) is none)

-- an entry at a place that has one
pub noted_before : {E : Type 0} (xs : List (Option (Bor E))) (at : ℕ) (d : Option (Bor E)) (entry : E) → at < length xs → d ≡ get_or xs at d → is_none d ≡ false
    → places xs ≡ with_first at entry (places xs)
noted_before [] at d entry within is some = absurd (omega (arith, within))
noted_before (None ∷ xs) zero d entry within is some = absurd (cc (is, some))
noted_before (Some x ∷ xs) zero d entry within is some = refl
noted_before (x ∷ xs) (suc at) d entry within is some = ap (λ ps. option_copied x ∷ ps) (noted_before xs at d entry (omega (arith, within)) is some)

-- an entry at no place
pub noted_nowhere : {E : Type 0} (xs : List (Option (Bor E))) (at : ℕ) (entry : E) → length xs ≤ at → places xs ≡ with_first at entry (places xs)
noted_nowhere [] at entry past = refl
noted_nowhere (x ∷ xs) zero entry past = absurd (omega (arith, past))
noted_nowhere (x ∷ xs) (suc at) entry past = ap (λ ps. option_copied x ∷ ps) (noted_nowhere xs at entry (omega (arith, past)))

pub length-with_first : {E : Type 0} (at : ℕ) (entry : E) (ps : List (Option E)) → length (with_first at entry ps) ≡ length ps
length-with_first at entry [] = refl
length-with_first zero entry (None ∷ ps) = refl
length-with_first zero entry (Some x ∷ ps) = refl
length-with_first (suc at) entry (p ∷ ps) = ap suc (length-with_first at entry ps)

-- another place
get_other : {E : Type 0} (at k : ℕ) (entry : E) (ps : List (Option E)) → (at == k) ≡ false → slice_get (with_first at entry ps) k ≡ slice_get ps k
get_other at k entry [] other = refl
get_other zero zero entry (p ∷ ps) other = absurd (cc other)
get_other zero (suc k) entry (None ∷ ps) other = refl
get_other zero (suc k) entry (Some x ∷ ps) other = refl
get_other (suc at) zero entry (p ∷ ps) other = refl
get_other (suc at) (suc k) entry (p ∷ ps) other = get_other at k entry ps (grind (arith, nat_tests, other))

-- the place itself, where it had none
get_none : {E : Type 0} (k : ℕ) (entry : E) (ps : List (Option E)) → slice_get ps k ≡ Some None → slice_get (with_first k entry ps) k ≡ Some (Some entry)
get_none k entry [] is = absurd (cc is)
get_none zero entry (None ∷ ps) is = refl
get_none zero entry (Some x ∷ ps) is = absurd (cc is)
get_none (suc k) entry (p ∷ ps) is = get_none k entry ps is

-- the place itself, where it had one
get_some : {E : Type 0} (k : ℕ) (entry other : E) (ps : List (Option E)) → slice_get ps k ≡ Some (Some other) → slice_get (with_first k entry ps) k ≡ Some (Some other)
get_some k entry other [] is = absurd (cc is)
get_some zero entry other (None ∷ ps) is = absurd (cc is)
get_some zero entry other (Some x ∷ ps) is = is
get_some (suc k) entry other (p ∷ ps) is = get_some k entry other ps is

module _ {C S K : Type 0} where
  -- each number below the count has its entry at its place
  abbrev pub Noted : List (Option (EntryOf C S K)) → ℕ → List (EventOf C S K) → Type 0
  Noted ps count events = (length ps ≡ count) × ((k : ℕ) → k < count → slice_get ps k ≡ Some (end_of k events))

  end_of_other : (k : ℕ) (xs : List (EventOf C S K)) (n : ℕ) (x : EntryOf C S K) (m b : ℕ) → (n == k) ≡ false → end_of k (xs ++ End n x m b ∷ []) ≡ end_of k xs
  end_of_other k [] n x m b other = grind (arith, nat_tests, other)
  end_of_other k (Lift calls ∷ xs) n x m b other = end_of_other k xs n x m b other
  end_of_other k (Trip v t ∷ xs) n x m b other = end_of_other k xs n x m b other
  end_of_other k (Down calls ∷ xs) n x m b other = end_of_other k xs n x m b other
  end_of_other k (Admit j t y ∷ xs) n x m b other = end_of_other k xs n x m b other
  end_of_other k (Close t ∷ xs) n x m b other = end_of_other k xs n x m b other
  end_of_other k (End j e t y ∷ xs) n x m b other = ap (λ rest. if j == k then Some e else rest) (end_of_other k xs n x m b other)

  end_of_none : (k : ℕ) (xs : List (EventOf C S K)) (x : EntryOf C S K) (m b : ℕ) → end_of k xs ≡ None → end_of k (xs ++ End k x m b ∷ []) ≡ Some x
  end_of_none k [] x m b none = grind (arith, nat_tests)
  end_of_none k (Lift calls ∷ xs) x m b none = end_of_none k xs x m b none
  end_of_none k (Trip v t ∷ xs) x m b none = end_of_none k xs x m b none
  end_of_none k (Down calls ∷ xs) x m b none = end_of_none k xs x m b none
  end_of_none k (Admit j t y ∷ xs) x m b none = end_of_none k xs x m b none
  end_of_none k (Close t ∷ xs) x m b none = end_of_none k xs x m b none
  end_of_none k (End j e t y ∷ xs) x m b none = step (j == k) none (end_of_none k xs x m b)
    where
      step : (t : Bool) → (if t then Some e else end_of k xs) ≡ None → (end_of k xs ≡ None → end_of k (xs ++ End k x m b ∷ []) ≡ Some x) → (if t then Some e else end_of k (xs ++ End k x m b ∷ [])) ≡ Some x
      step true is more = absurd (cc is)
      step false is more = more is

  end_of_quiet : (k : ℕ) (xs : List (EventOf C S K)) (e : EventOf C S K) → end_of k (e ∷ []) ≡ None → end_of k (xs ++ e ∷ []) ≡ end_of k xs
  end_of_quiet k [] e quiet = quiet
  end_of_quiet k (Lift calls ∷ xs) e quiet = end_of_quiet k xs e quiet
  end_of_quiet k (Trip v t ∷ xs) e quiet = end_of_quiet k xs e quiet
  end_of_quiet k (Down calls ∷ xs) e quiet = end_of_quiet k xs e quiet
  end_of_quiet k (Admit j t y ∷ xs) e quiet = end_of_quiet k xs e quiet
  end_of_quiet k (Close t ∷ xs) e quiet = end_of_quiet k xs e quiet
  end_of_quiet k (End j x t y ∷ xs) e quiet = ap (λ rest. if j == k then Some x else rest) (end_of_quiet k xs e quiet)

  -- an event that is no End
  noted_other : (ps : List (Option (EntryOf C S K))) (count : ℕ) (xs : List (EventOf C S K)) (e : EventOf C S K) → ((k : ℕ) → end_of k (e ∷ []) ≡ None) → Noted ps count xs → Noted ps count (xs ++ e ∷ [])
  noted_other ps count xs e quiet h = (h.0, λ k lt. h.1 k lt ∙ ap (λ (o : Option (EntryOf C S K)). Some o) (sym (end_of_quiet k xs e (quiet k))))

  -- an End
  noted_end : (ps : List (Option (EntryOf C S K))) (count : ℕ) (xs : List (EventOf C S K)) (n : ℕ) (x : EntryOf C S K) (m b : ℕ) → Noted ps count xs → Noted (with_first n x ps) count (xs ++ End n x m b ∷ [])
  noted_end ps count xs n x m b h = (length-with_first n x ps ∙ h.0, λ k lt. by_number k (n == k) refl (h.1 k lt))
    where
      by_entry : (o : Option (EntryOf C S K)) → end_of n xs ≡ o → slice_get ps n ≡ Some o → (end_of n xs ≡ None → end_of n (xs ++ End n x m b ∷ []) ≡ Some x) → slice_get (with_first n x ps) n ≡ Some (end_of n (xs ++ End n x m b ∷ []))
      by_entry None is at more = get_none n x ps at ∙ ap (λ (o : Option (EntryOf C S K)). Some o) (sym (more is))
      by_entry (Some e) is at more = get_some n x e ps at ∙ ap (λ (o : Option (EntryOf C S K)). Some o) (sym (end_of_front n xs (End n x m b ∷ []) e is))

      by_number : (k : ℕ) (t : Bool) → (n == k) ≡ t → slice_get ps k ≡ Some (end_of k xs) → slice_get (with_first n x ps) k ≡ Some (end_of k (xs ++ End n x m b ∷ []))
      by_number k false other at = get_other n k x ps other ∙ at ∙ ap (λ (o : Option (EntryOf C S K)). Some o) (sym (end_of_other k xs n x m b other))
      by_number k true same at =
          let number : n ≡ k = grind (arith, nat_tests, same) in
          subst (λ (j : ℕ). slice_get (with_first n x ps) j ≡ Some (end_of j (xs ++ End n x m b ∷ []))) number
          (by_entry (end_of n xs) refl (subst (λ (j : ℕ). slice_get ps j ≡ Some (end_of j xs)) (sym number) at) (end_of_none n xs x m b))

  -- one event more
  pub noted_more : (ps : List (Option (EntryOf C S K))) (count : ℕ) (xs : List (EventOf C S K)) (e : EventOf C S K) → Noted ps count xs → Noted (noted e ps) count (xs ++ e ∷ [])
  noted_more ps count xs (End n x m b) h = noted_end ps count xs n x m b h
  noted_more ps count xs (Lift calls) h = noted_other ps count xs (Lift calls) (λ k. refl) h
  noted_more ps count xs (Trip v t) h = noted_other ps count xs (Trip v t) (λ k. refl) h
  noted_more ps count xs (Down calls) h = noted_other ps count xs (Down calls) (λ k. refl) h
  noted_more ps count xs (Admit n m b) h = noted_other ps count xs (Admit n m b) (λ k. refl) h
  noted_more ps count xs (Close m) h = noted_other ps count xs (Close m) (λ k. refl) h

-- as many places, with nothing in them
abbrev pub nones : {E : Type 0} → ℕ → List (Option E)
nones {E} count = let none : Option E = None in replicate count none

nones_suc : {E : Type 0} (n : ℕ) → nones {E = E} n ++ None ∷ [] ≡ nones {E = E} (suc n)
nones_suc zero = refl
nones_suc {E} (suc n) = ap (λ (ps : List (Option E)). None ∷ ps) (nones_suc {E = E} n)

places_push : {E : Type 0} (xs : List (Option (Bor E))) → places (xs ++ None ∷ []) ≡ places xs ++ None ∷ []
places_push [] = refl
places_push {E} (x ∷ xs) = ap (λ (ps : List (Option E)). option_copied x ∷ ps) (places_push xs)

-- one place more
pub nones_more : {E : Type 0} (xs : List (Option (Bor E))) (n : ℕ) → places xs ≡ nones n → places (xs ++ None ∷ []) ≡ nones (n + 1)
nones_more {E} xs n is =
    let next : n + 1 ≡ suc n = omega arith in
    rw next (places_push xs ∙ ap (λ (ps : List (Option E)). ps ++ None ∷ []) is ∙ nones_suc {E = E} n)

nones_at : {E : Type 0} (count k : ℕ) → k < count → slice_get (nones {E = E} count) k ≡ Some None
nones_at zero k lt = absurd (omega (arith, lt))
nones_at (suc n) zero lt = refl
nones_at {E} (suc n) (suc k) lt = nones_at {E = E} n k (omega (arith, lt))

length-nones : (E : Type 0) (count : ℕ) → length (nones {E = E} count) ≡ count
length-nones E zero = refl
length-nones E (suc n) = ap suc (length-nones E n)

-- before the first event
pub noted_none : {C S K : Type 0} (ps : List (Option (EntryOf C S K))) (count : ℕ) → ps ≡ nones count → Noted ps count []
noted_none {C} {S} {K} ps count is = (ap length is ∙ length-nones (EntryOf C S K) count, λ k lt. ap (λ (xs : List (Option (EntryOf C S K))). slice_get xs k) is ∙ nones_at {E = EntryOf C S K} count k lt)
