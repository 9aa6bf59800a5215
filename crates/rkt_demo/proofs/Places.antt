-- What stands at a place of a front, of a rest, and of two lists in a row; and what a front is mapped to.
use Rattle.std.proofs.Common.{zero, suc, ◌≡◌, ◌<◌, ◌+◌, ◌++◌, ℕ, List, [], ◌∷◌, drop, length, slice_get, map, take, refl, ap, arith}

module _ {X : Type 0} where
  pub front_at : (xs : List X) (n k : ℕ) → k < n → slice_get (take n xs) k ≡ slice_get xs k
  front_at xs zero k within = absurd (omega (arith, within))
  front_at [] (suc n) k within = refl
  front_at (x ∷ xs) (suc n) zero within = refl
  front_at (x ∷ xs) (suc n) (suc k) within = front_at xs n k (omega (arith, within))

  pub rest_at : (xs : List X) (n k i : ℕ) → i ≡ n + k → slice_get (drop n xs) k ≡ slice_get xs i
  rest_at xs zero k i same = let is : i ≡ k = omega (arith, same) in rw is refl
  rest_at [] (suc n) k i same = refl
  rest_at (x ∷ xs) (suc n) k zero same = absurd (omega (arith, same))
  rest_at (x ∷ xs) (suc n) k (suc i) same = rest_at xs n k i (omega (arith, same))

  pub left_at : (xs ys : List X) (k : ℕ) → k < length xs → slice_get (xs ++ ys) k ≡ slice_get xs k
  left_at [] ys k within = absurd (omega (arith, within))
  left_at (x ∷ xs) ys zero within = refl
  left_at (x ∷ xs) ys (suc k) within = left_at xs ys k (omega (arith, within))

  pub right_at : (xs ys : List X) (k i : ℕ) → i ≡ length xs + k → slice_get (xs ++ ys) i ≡ slice_get ys k
  right_at [] ys k i same = let is : i ≡ k = omega (arith, same) in rw is refl
  right_at (x ∷ xs) ys k zero same = absurd (omega (arith, same))
  right_at (x ∷ xs) ys k (suc i) same = right_at xs ys k i (omega (arith, same))

module _ {X Y : Type 0} (f : X → Y) where
  pub map_front : (n : ℕ) (xs : List X) → map f (take n xs) ≡ take n (map f xs)
  map_front zero xs = refl
  map_front (suc n) [] = refl
  map_front (suc n) (x ∷ xs) = ap (λ (ys : List Y). f x ∷ ys) (map_front n xs)
