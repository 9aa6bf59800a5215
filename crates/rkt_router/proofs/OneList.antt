-- Two lists of tries are one.
use Rattle.std.proofs.Common.{◌≡◌, ◌↔◌, ◌<◌, ℕ, zero, suc, List, [], ◌∷◌, ◌⊎◌, inl, inr, arith, sym, ◌∙◌, ap, refl, subst, length, get_or}
use Rattle.std.specs.List.{AllPairs, IsAmong}
use Rattle.rkt_request.specs.Seen.{Seen}
use Rattle.rkt_router.specs.Tries.{Before, IsTries}
use Rattle.rkt_route.specs.declared.route.Route.{Route}
use Rattle.rkt_route.proofs.Among.{among_first, among_later, not_first}
use Rattle.rkt_router.proofs.Orders.{before_not_same, before_trans}

module _ {H S : Type 0} (routes : List (Route H S)) where
  -- what stands behind the first comes behind it
  pub behind_first : (x p : ℕ) (xs : List ℕ) → AllPairs (Before routes) (x ∷ xs) → IsAmong xs p → Before routes x p
  behind_first x p xs ordered among = subst (Before routes x) (sym among.1.1) (ordered 0 (suc among.0) p (omega arith) (omega (arith, among.1.0)))

  pub first_or : (x p : ℕ) (xs : List ℕ) → AllPairs (Before routes) (x ∷ xs) → (i : ℕ) → i < length (x ∷ xs) → p ≡ get_or (x ∷ xs) i p → (p ≡ x) ⊎ Before routes x p
  first_or x p xs ordered zero within is = inl is
  first_or x p xs ordered (suc i) within is = inr (behind_first x p xs ordered (i, (omega (arith, within), is)))

  pub ordered_rest : (x : ℕ) (xs : List ℕ) → AllPairs (Before routes) (x ∷ xs) → AllPairs (Before routes) xs
  ordered_rest x xs ordered i j d less within = ordered (suc i) (suc j) d (omega (arith, less)) (omega (arith, within))

  pub heads : (x y : ℕ) → (x ≡ y) ⊎ Before routes y x → (y ≡ x) ⊎ Before routes x y → x ≡ y
  heads x y (inl same) other = same
  heads x y (inr h) (inl same) = sym same
  heads x y (inr h) (inr k) = absurd (before_not_same routes x (before_trans routes x y x k h))

  pub one_list : (a b : List ℕ) → AllPairs (Before routes) a → AllPairs (Before routes) b → ((p : ℕ) → IsAmong a p ↔ IsAmong b p) → a ≡ b
  one_list [] [] one other law = refl
  one_list [] (y ∷ b) one other law = let h = (law y).1 (among_first y b) in absurd (omega (arith, h.1.0))
  one_list (x ∷ a) [] one other law = let h = (law x).0 (among_first x a) in absurd (omega (arith, h.1.0))
  one_list (x ∷ a) (y ∷ b) one other law =
      let in_b = (law x).0 (among_first x a) in
      let in_a = (law y).1 (among_first y b) in
      let head : x ≡ y = heads x y (first_or y x b other in_b.0 in_b.1.0 in_b.1.1) (first_or x y a one in_a.0 in_a.1.0 in_a.1.1) in
      let rest : a ≡ b = one_list a b (ordered_rest x a one) (ordered_rest y b other) (λ p. (
        λ h. not_first_in y p b (λ same. before_not_same routes x (subst (Before routes x) (same ∙ sym head) (behind_first x p a one h))) ((law p).0 (among_later x p a h)),
        λ h. not_first_in x p a (λ same. before_not_same routes y (subst (Before routes y) (same ∙ head) (behind_first y p b other h))) ((law p).1 (among_later y p b h)),
      )) in
      ap (λ (n : ℕ). n ∷ a) head ∙ ap (λ (xs : List ℕ). y ∷ xs) rest
    where
      not_first_in : (x p : ℕ) (xs : List ℕ) → ¬ (p ≡ x) → IsAmong (x ∷ xs) p → IsAmong xs p
      not_first_in x p xs other among = not_first x p xs other among.0 among.1.0 among.1.1

-- the tries of a request are one list
pub one_tries : {H S V : Type 0} (routes : List (Route H S)) (request : Seen V) (a b : List ℕ) → IsTries routes request a → IsTries routes request b → a ≡ b
one_tries routes request a b one other =
    one_list routes a b one.ordered other.ordered (λ p. (λ h. (other.matching p).1 ((one.matching p).0 h), λ h. (one.matching p).1 ((other.matching p).0 h)))
