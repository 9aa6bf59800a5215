-- How the pairs that collide are found.
use Rattle.std.proofs.Common.{◌≡◌, ◌↔◌, ◌<◌, ◌≤◌, ◌+◌, ℕ, zero, suc, List, [], ◌∷◌, ◌++◌, Option, Some, None, ◌⊎◌, inl, inr, arith, sym, ◌∙◌, ap, refl, subst, length, get_or, Bool, IsTrue}
use Rattle.std.specs.Prelude.{IsSomeAnd, slice_get}
use Rattle.std.specs.List.{IsAmong}
use Rattle.std.proofs.lemmas.List.{get_or_default}
use Rattle.std.proofs.lemmas.List.Quantifiers.{all_pairs_push}
use Rattle.std.proofs.lemmas.Option.{slice_get_within}
use Rattle.rkt_route.specs.Collisions.{AreCollisions, CollidesAt, PairBefore}
use Rattle.rkt_route.specs.Pairs.{AreCollisionsBefore}
use Rattle.rkt_route.proofs.Among.{among_first, among_later}

module _ {X : Type 0} (Collide : X → X → Type 0) (items : List X) where
  there_of : (a b : Option X) → IsSomeAnd a (λ a. IsSomeAnd b (Collide a)) → ((x : X) × (a ≡ Some x)) × ((y : X) × (b ≡ Some y))
  there_of None b h = absurd h
  there_of (Some a) None h = absurd h
  there_of (Some a) (Some b) h = ((a, refl), (b, refl))

  -- what collides stands in the list
  within_of : (pair : ℕ × ℕ) → CollidesAt Collide items pair → (pair.0 < length items) × (pair.1 < length items)
  within_of pair h = let both = there_of (slice_get items pair.0) (slice_get items pair.1) h.1 in
      (slice_get_within items pair.0 both.0.0 both.0.1, slice_get_within items pair.1 both.1.0 both.1.1)

  -- a test of two items decides
  pub collides_decided : (first second : ℕ) (a b : X) (r : Bool) → first < second → slice_get items first ≡ Some a → slice_get items second ≡ Some b → IsTrue r ↔ Collide a b
      → IsTrue r ↔ CollidesAt Collide items (first, second)
  collides_decided first second a b r less is other law = (
    λ yes. (less, subst (λ (x : Option X). IsSomeAnd x (λ a. IsSomeAnd (slice_get items second) (Collide a))) (sym is) (subst (λ (y : Option X). IsSomeAnd y (Collide a)) (sym other) (law.0 yes))),
    λ h. law.1 (subst (λ (y : Option X). IsSomeAnd y (Collide a)) other (subst (λ (x : Option X). IsSomeAnd x (λ a. IsSomeAnd (slice_get items second) (Collide a))) is h.1)),
  )

  -- the end may be set on over pairs that do not collide
  pub end_on : (end end' : ℕ × ℕ) (pairs : List (ℕ × ℕ)) → ((pair : ℕ × ℕ) → CollidesAt Collide items pair → PairBefore pair end ↔ PairBefore pair end')
      → AreCollisionsBefore Collide items end pairs → AreCollisionsBefore Collide items end' pairs
  end_on end end' pairs law known = record {
    colliding = λ pair. (
      λ among. let h = (known.colliding pair).0 among in ((law pair h.1).0 h.0, h.1),
      λ h. (known.colliding pair).1 ((law pair h.1).1 h.0, h.1),
    );
    ordered = known.ordered;
  }

  -- no pair comes before the first
  pub pairs_none : AreCollisionsBefore Collide items (0, 0) []
  pairs_none = record {
    colliding = λ pair. (λ among. absurd (omega (arith, among.1.0)), λ h. absurd (none pair h.0));
    ordered = λ i j d less within. absurd (omega (arith, within));
  }
    where
      none : (pair : ℕ × ℕ) → ¬ PairBefore pair (0, 0)
      none pair (inl h) = omega (arith, h)
      none pair (inr h) = omega (arith, h.1)

  -- a pair collides only with a second item behind the first
  pub begin_row : (first : ℕ) (pairs : List (ℕ × ℕ)) → AreCollisionsBefore Collide items (first, 0) pairs → AreCollisionsBefore Collide items (first, first + 1) pairs
  begin_row first pairs known = end_on (first, 0) (first, first + 1) pairs (λ pair h. (λ before. on pair before, λ before. back pair h before)) known
    where
      on : (pair : ℕ × ℕ) → PairBefore pair (first, 0) → PairBefore pair (first, first + 1)
      on pair (inl h) = inl h
      on pair (inr h) = absurd (omega (arith, h.1))

      back : (pair : ℕ × ℕ) → CollidesAt Collide items pair → PairBefore pair (first, first + 1) → PairBefore pair (first, 0)
      back pair c (inl h) = inl h
      back pair c (inr h) = absurd (omega (arith, c.0, h.0, h.1))

  pub end_row : (first second : ℕ) (pairs : List (ℕ × ℕ)) → length items ≤ second → AreCollisionsBefore Collide items (first, second) pairs → AreCollisionsBefore Collide items (first + 1, 0) pairs
  end_row first second pairs all known = end_on (first, second) (first + 1, 0) pairs (λ pair h. (λ before. on pair before, λ before. back pair h (within_of pair h) before)) known
    where
      on : (pair : ℕ × ℕ) → PairBefore pair (first, second) → PairBefore pair (first + 1, 0)
      on pair (inl h) = inl (omega (arith, h))
      on pair (inr h) = inl (omega (arith, h.0))

      places : (n first : ℕ) → n < first + 1 → (n < first) ⊎ (n ≡ first)
      places n first h = grind arith

      back : (pair : ℕ × ℕ) → CollidesAt Collide items pair → (pair.0 < length items) × (pair.1 < length items) → PairBefore pair (first + 1, 0) → PairBefore pair (first, second)
      back pair c within (inr h) = absurd (omega (arith, h.1))
      back pair c within (inl h) = by_place (places pair.0 first h)
        where
          by_place : (pair.0 < first) ⊎ (pair.0 ≡ first) → PairBefore pair (first, second)
          by_place (inl below) = inl below
          by_place (inr same) = inr (same, omega (arith, within.1, all))

  step : (pair : ℕ × ℕ) (first second : ℕ) → PairBefore pair (first, second + 1) → PairBefore pair (first, second) ⊎ ((pair.0 ≡ first) × (pair.1 ≡ second))
  step pair first second (inl h) = inl (inl h)
  step pair first second (inr h) = by_place (places pair.1 second h.1)
    where
      places : (n m : ℕ) → n < m + 1 → (n < m) ⊎ (n ≡ m)
      places n m h = grind arith

      by_place : (pair.1 < second) ⊎ (pair.1 ≡ second) → PairBefore pair (first, second) ⊎ ((pair.0 ≡ first) × (pair.1 ≡ second))
      by_place (inl below) = inl (inr (h.0, below))
      by_place (inr same) = inr (h.0, same)

  before_more : (pair : ℕ × ℕ) (first second : ℕ) → PairBefore pair (first, second) → PairBefore pair (first, second + 1)
  before_more pair first second (inl h) = inl h
  before_more pair first second (inr h) = inr (h.0, omega (arith, h.1))

  pair_is : (pair : ℕ × ℕ) (first second : ℕ) → pair.0 ≡ first → pair.1 ≡ second → pair ≡ (first, second)
  pair_is pair first second a b = let Pair : ℕ → ℕ → ℕ × ℕ = λ m n. (m, n) in ap (λ (m : ℕ). Pair m pair.1) a ∙ ap (Pair first) b

  -- a pair that does not collide is passed over
  pub passes_pair : (first second : ℕ) (pairs : List (ℕ × ℕ)) → ¬ CollidesAt Collide items (first, second) → AreCollisionsBefore Collide items (first, second) pairs
      → AreCollisionsBefore Collide items (first, second + 1) pairs
  passes_pair first second pairs other known = end_on (first, second) (first, second + 1) pairs (λ pair h. (before_more pair first second, λ before. by_case pair h (step pair first second before))) known
    where
      by_case : (pair : ℕ × ℕ) → CollidesAt Collide items pair → PairBefore pair (first, second) ⊎ ((pair.0 ≡ first) × (pair.1 ≡ second)) → PairBefore pair (first, second)
      by_case pair h (inl before) = before
      by_case pair h (inr same) = absurd (other (subst (CollidesAt Collide items) (pair_is pair first second same.0 same.1) h))

  push_at : (pairs : List (ℕ × ℕ)) (p x pair : ℕ × ℕ) → (IsAmong (pairs ++ x ∷ []) pair → IsAmong pairs pair ⊎ (pair ≡ x)) → (i : ℕ) → i < length (p ∷ (pairs ++ x ∷ []))
      → pair ≡ get_or (p ∷ (pairs ++ x ∷ [])) i pair → IsAmong (p ∷ pairs) pair ⊎ (pair ≡ x)
  push_at pairs p x pair more zero within is = inl (subst (IsAmong (p ∷ pairs)) (sym is) (among_first p pairs))
  push_at pairs p x pair more (suc i) within is = deeper (more (i, (omega (arith, within), is)))
    where
      deeper : IsAmong pairs pair ⊎ (pair ≡ x) → IsAmong (p ∷ pairs) pair ⊎ (pair ≡ x)
      deeper (inl h) = inl (among_later p pair pairs h)
      deeper (inr h) = inr h

  push_only : (x pair : ℕ × ℕ) (i : ℕ) → i < length (x ∷ []) → pair ≡ get_or (x ∷ []) i pair → IsAmong [] pair ⊎ (pair ≡ x)
  push_only x pair zero within is = inr is
  push_only x pair (suc i) within is = absurd (omega (arith, within))

  among_push : (pairs : List (ℕ × ℕ)) (x pair : ℕ × ℕ) → IsAmong (pairs ++ x ∷ []) pair → IsAmong pairs pair ⊎ (pair ≡ x)
  among_push [] x pair among = push_only x pair among.0 among.1.0 among.1.1
  among_push (p ∷ pairs) x pair among = push_at pairs p x pair (among_push pairs x pair) among.0 among.1.0 among.1.1

  front_at : (pairs : List (ℕ × ℕ)) (p x pair : ℕ × ℕ) → (IsAmong pairs pair → IsAmong (pairs ++ x ∷ []) pair) → (i : ℕ) → i < length (p ∷ pairs) → pair ≡ get_or (p ∷ pairs) i pair
      → IsAmong (p ∷ (pairs ++ x ∷ [])) pair
  front_at pairs p x pair more zero within is = subst (IsAmong (p ∷ (pairs ++ x ∷ []))) (sym is) (among_first p (pairs ++ x ∷ []))
  front_at pairs p x pair more (suc i) within is = among_later p pair (pairs ++ x ∷ []) (more (i, (omega (arith, within), is)))

  among_front : (pairs : List (ℕ × ℕ)) (x pair : ℕ × ℕ) → IsAmong pairs pair → IsAmong (pairs ++ x ∷ []) pair
  among_front [] x pair among = absurd (omega (arith, among.1.0))
  among_front (p ∷ pairs) x pair among = front_at pairs p x pair (among_front pairs x pair) among.0 among.1.0 among.1.1

  among_end : (pairs : List (ℕ × ℕ)) (x : ℕ × ℕ) → IsAmong (pairs ++ x ∷ []) x
  among_end [] x = among_first x []
  among_end (p ∷ pairs) x = among_later p x (pairs ++ x ∷ []) (among_end pairs x)

  -- a pair that collides is added
  pub adds_pair : (first second : ℕ) (pairs pairs' : List (ℕ × ℕ)) → pairs' ≡ pairs ++ (first, second) ∷ [] → CollidesAt Collide items (first, second)
      → AreCollisionsBefore Collide items (first, second) pairs → AreCollisionsBefore Collide items (first, second + 1) pairs'
  adds_pair first second pairs pairs' is here known = subst (AreCollisionsBefore Collide items (first, second + 1)) (sym is) (record {
    colliding = λ pair. (λ among. sound pair (among_push pairs (first, second) pair among), λ h. complete pair h.1 (step pair first second h.0));
    ordered = all_pairs_push PairBefore pairs (first, second) known.ordered
        (λ k d within. ((known.colliding (get_or pairs k d)).0 (k, (within, get_or_default pairs k d (get_or pairs k d) within))).0);
  })
    where
      sound : (pair : ℕ × ℕ) → IsAmong pairs pair ⊎ (pair ≡ (first, second)) → PairBefore pair (first, second + 1) × CollidesAt Collide items pair
      sound pair (inl among) = let h = (known.colliding pair).0 among in (before_more pair first second h.0, h.1)
      sound pair (inr same) =
          (subst (λ (p : ℕ × ℕ). PairBefore p (first, second + 1)) (sym same) (inr (refl, omega arith)), subst (CollidesAt Collide items) (sym same) here)

      complete : (pair : ℕ × ℕ) → CollidesAt Collide items pair → PairBefore pair (first, second) ⊎ ((pair.0 ≡ first) × (pair.1 ≡ second)) → IsAmong (pairs ++ (first, second) ∷ []) pair
      complete pair h (inl before) = among_front pairs (first, second) pair ((known.colliding pair).1 (before, h))
      complete pair h (inr same) = subst (IsAmong (pairs ++ (first, second) ∷ [])) (sym (pair_is pair first second same.0 same.1)) (among_end pairs (first, second))

  -- these are all
  pub all_pairs : (first : ℕ) (pairs : List (ℕ × ℕ)) → length items ≤ first → AreCollisionsBefore Collide items (first, 0) pairs → AreCollisions Collide items pairs
  all_pairs first pairs all known = record {
    colliding = λ pair. (
      λ among. ((known.colliding pair).0 among).1,
      λ h. let within = within_of pair h in (known.colliding pair).1 (inl (omega (arith, within.0, all)), h),
    );
    ordered = known.ordered;
  }
