-- What is tried next, and which catcher is chosen, is one.
use Rattle.std.proofs.Common.{◌≡◌, ◌<◌, ◌⊎◌, inl, inr, ℕ, List, Option, Some, None, refl, ap, sym, arith}
use Rattle.rkt_request.specs.Seen.{Seen}
use Rattle.rkt_route.specs.declared.catcher.Catcher.{Catcher}
use Rattle.rkt_route.specs.declared.route.Route.{Route}
use Rattle.rkt_router.proofs.OneList.{heads}
use Rattle.rkt_router.specs.Catchers.{IsBest, IsChosen}
use Rattle.rkt_router.specs.Tries.{Before, IsNextTry}

-- of two that are tried next, both are one
pub one_next : {H S V : Type 0} (routes : List (Route H S)) (request : Seen V) (after : Option ℕ) (p q : ℕ) → IsNextTry routes request after (Some p) → IsNextTry routes request after (Some q) → p ≡ q
one_next routes request after p q one other = heads routes p q (turned q p (other.2 p one.0 one.1)) (turned p q (one.2 q other.0 other.1))
  where
    turned : (a b : ℕ) → (a ≡ b) ⊎ Before routes a b → (b ≡ a) ⊎ Before routes a b
    turned a b (inl same) = inl (sym same)
    turned a b (inr before) = inr before

module _ {C V : Type 0} (catchers : List (Catcher C)) (status : ℕ) (request : Seen V) where
  -- of two best ones, neither was registered first
  not_below : (p q : ℕ) → IsBest catchers status request p → IsBest catchers status request q → ¬ (p < q)
  not_below p q one other below = one.highest q other.catches (other.first p below one.catches)

  same_place : (p q : ℕ) → ¬ (p < q) → ¬ (q < p) → p ≡ q
  same_place p q above below = by_order (order p q)
    where
      order : (p q : ℕ) → (p < q) ⊎ ((p ≡ q) ⊎ (q < p))
      order p q = grind arith

      by_order : (p < q) ⊎ ((p ≡ q) ⊎ (q < p)) → p ≡ q
      by_order (inl less) = absurd (above less)
      by_order (inr (inl same)) = same
      by_order (inr (inr more)) = absurd (below more)

  pub one_chosen : (a b : Option ℕ) → IsChosen catchers status request a → IsChosen catchers status request b → a ≡ b
  one_chosen None None none none' = refl
  one_chosen None (Some q) none best = absurd (none q best.catches)
  one_chosen (Some p) None best none = absurd (none p best.catches)
  one_chosen (Some p) (Some q) best best' = ap Some (same_place p q (not_below p q best best') (not_below q p best' best))
