-- Ranks of entries, as three numbers.
use Rattle.std.proofs.Common.{◌≡◌, ℕ, zero, suc, ◌+◌, ◌<◌, ◌≤◌, ◌⊎◌, inl, inr, List, length, get_or, refl, ap, subst, arith, Some}
use Rattle.std.proofs.lemmas.Option.{slice_get_within, slice_get_read}
use Rattle.std.specs.List.{slice_get}
use Rattle.rkt_media.specs.Media.{specificity_of}
use Rattle.rkt_media.specs.Accept.{Weighed, Outranks, IsPreferred}

abbrev Higher : ℕ → ℕ → ℕ → ℕ → ℕ → ℕ → Type 0
Higher w s p w' s' p' = (w' < w) ⊎ ((w ≡ w') × ((s' < s) ⊎ ((s ≡ s') × (p' < p))))

not_itself : (w s p : ℕ) → ¬ Higher w s p w s p
not_itself w s p h = grind (arith, h)

still_higher : (w s p w' s' p' w'' s'' p'' : ℕ) → Higher w s p w' s' p' → Higher w' s' p' w'' s'' p'' → Higher w s p w'' s'' p''
still_higher w s p w' s' p' w'' s'' p'' h k = grind (arith, h, k)

above_no_higher : (w s p w' s' p' w'' s'' p'' : ℕ) → Higher w s p w' s' p' → ¬ Higher w'' s'' p'' w' s' p' → Higher w s p w'' s'' p''
above_no_higher w s p w' s' p' w'' s'' p'' h k = grind (arith, h, k)

-- the entry at best is preferred among the first n
pub record BestOf (entries : List Weighed) (n best : ℕ) (entry : Weighed) : Type 0 where
  pub best_of : (k : ℕ) (other : Weighed) → k < n → slice_get entries k ≡ Some other → ¬ Outranks other entry
  pub first_of : (k : ℕ) (other : Weighed) → k < best → slice_get entries k ≡ Some other → Outranks entry other

-- what the walk keeps
pub record KeptBest (entries : List Weighed) (n best : ℕ) : Type 0 where
  pub within : best < n
  pub inside : n ≤ length entries
  pub best_so_far : (entry : Weighed) → slice_get entries best ≡ Some entry → BestOf entries n best entry

last_or_below : (k n : ℕ) → k < n + 1 → (k < n) ⊎ (k ≡ n)
last_or_below zero zero h = inr refl
last_or_below zero (suc n) h = inl (omega arith)
last_or_below (suc k) zero h = absurd (omega arith)
last_or_below (suc k) (suc n) h = elim (last_or_below k n (omega arith)) [ inl l ↦ inl (omega arith) | inr e ↦ inr (ap (λ (x : ℕ). suc x) e) ]

same_at : (es : List Weighed) (i k : ℕ) (x y : Weighed) → slice_get es i ≡ Some x → slice_get es k ≡ Some y → k ≡ i → y ≡ x
same_at es i k x y at_i at_k e = let f : slice_get es k ≡ slice_get es i = ap (slice_get es) e in cc

rank_no_itself : (a b : Weighed) → a ≡ b → ¬ Outranks a b
rank_no_itself a b e h = let P : Weighed → Type 0 = λ x. Outranks x b in not_itself b.weight (specificity_of b.media) (length b.media.parameters) (subst P e h)

rank_still : (a b c : Weighed) → Outranks a b → Outranks b c → Outranks a c
rank_still a b c = still_higher a.weight (specificity_of a.media) (length a.media.parameters) b.weight (specificity_of b.media) (length b.media.parameters) c.weight (specificity_of c.media) (length c.media.parameters)

rank_above : (a b c : Weighed) → Outranks a b → ¬ Outranks c b → Outranks a c
rank_above a b c = above_no_higher a.weight (specificity_of a.media) (length a.media.parameters) b.weight (specificity_of b.media) (length b.media.parameters) c.weight (specificity_of c.media) (length c.media.parameters)

taken_best : (es : List Weighed) (n best : ℕ) (a b : Weighed) → slice_get es n ≡ Some a → BestOf es n best b → Outranks a b → BestOf es (n + 1) n a
taken_best es n best a b at_n kept higher = record {
  best_of = λ k other below at_k h. elim (last_or_below k n below) [
    | inl l ↦ kept.best_of k other l at_k (rank_still other a b h higher)
    | inr e ↦ rank_no_itself other a (same_at es n k a other at_n at_k e) h
  ];
  first_of = λ k other below at_k. rank_above a b other higher (kept.best_of k other below at_k);
}

kept_best : (es : List Weighed) (n best : ℕ) (a b : Weighed) → slice_get es n ≡ Some a → BestOf es n best b → ¬ Outranks a b → BestOf es (n + 1) best b
kept_best es n best a b at_n kept not_higher = record {
  best_of = λ k other below at_k h. elim (last_or_below k n below) [
    | inl l ↦ kept.best_of k other l at_k h
    | inr e ↦ let P : Weighed → Type 0 = λ x. Outranks x b in not_higher (subst P (same_at es n k a other at_n at_k e) h)
  ];
  first_of = kept.first_of;
}

pub takes : (es : List Weighed) (n best : ℕ) (a b : Weighed) → KeptBest es n best → n < length es → a ≡ get_or es n a → b ≡ get_or es best b → Outranks a b → KeptBest es (n + 1) n
takes es n best a b kept within is_a is_b higher =
    let at_n = slice_get_read es (length es) n a refl within is_a in
    let below : best < n = kept.within in
    let at_best = slice_get_read es (length es) best b refl (omega arith) is_b in
    record {
      within = omega arith;
      inside = omega arith;
      best_so_far = λ entry is. let P : Weighed → Type 0 = BestOf es (n + 1) n in
          subst P (same_at es n n entry a is at_n refl) (taken_best es n best a b at_n (kept.best_so_far b at_best) higher);
    }

pub keeps : (es : List Weighed) (n best : ℕ) (a b : Weighed) → KeptBest es n best → n < length es → a ≡ get_or es n a → b ≡ get_or es best b → ¬ Outranks a b → KeptBest es (n + 1) best
keeps es n best a b kept within is_a is_b not_higher =
    let at_n = slice_get_read es (length es) n a refl within is_a in
    let below : best < n = kept.within in
    let at_best = slice_get_read es (length es) best b refl (omega arith) is_b in
    record {
      within = omega arith;
      inside = omega arith;
      best_so_far = λ entry is. let P : Weighed → Type 0 = BestOf es (n + 1) best in
          subst P (same_at es best best entry b is at_best refl) (kept_best es n best a b at_n (kept.best_so_far b at_best) not_higher);
    }

pub preferred_at : (es : List Weighed) (n best : ℕ) → KeptBest es n best → length es ≤ n → (entry : Weighed) → slice_get es best ≡ Some entry → IsPreferred es best entry
preferred_at es n best kept whole entry is = let b = kept.best_so_far entry is in record {
  there = is;
  best = λ k other at_k. let within : k < length es = slice_get_within es k other at_k in b.best_of k other (omega arith) at_k;
  first = b.first_of;
}
