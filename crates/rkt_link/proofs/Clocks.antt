-- The greatest moment so far.
use Rattle.std.proofs.Common.{zero, suc, ◌≡◌, ◌≤◌, ◌<◌, ◌+◌, ℕ, max, List, [], ◌∷◌, Some, refl, get_or, length, take, arith}
use Rattle.rkt_link.specs.Memory.{first, greatest}

greatest_take_more : (xs : List ℕ) (n x : ℕ) → n < length xs → x ≡ get_or xs n x → greatest (take (suc n) xs) ≡ max (greatest (take n xs)) x
greatest_take_more [] n x within is = absurd (omega (arith, within))
greatest_take_more (y ∷ ys) zero x within is = omega (arith, is)
greatest_take_more (y ∷ ys) (suc n) x within is = omega (arith, greatest_take_more ys n x (omega (arith, within)) is)

-- one moment more
pub greatest_told : (xs : List ℕ) (n x last : ℕ) → n < length xs → x ≡ get_or xs n x → last ≡ greatest (take n xs) → max last x ≡ greatest (take (n + 1) xs)
greatest_told xs n x last within is kept =
    let next : n + 1 ≡ suc n = omega arith in
    rw next (omega (arith, greatest_take_more xs n x within is, kept))

pub greatest_within : (n : ℕ) (xs : List ℕ) → greatest (take n xs) ≤ greatest xs
greatest_within zero xs = omega arith
greatest_within (suc n) [] = omega arith
greatest_within (suc n) (x ∷ xs) = omega (arith, greatest_within n xs)

pub first_within : (n : ℕ) (xs : List ℕ) → (n ≡ 0 → length xs ≡ 0) → first xs ≤ greatest (take n xs)
first_within n [] some = omega arith
first_within zero (x ∷ xs) some = absurd (omega (arith, some refl))
first_within (suc n) (x ∷ xs) some = omega arith

pub in_window : (low high n : ℕ) (w : ℕ × ℕ) → Some (low, high) ≡ Some w → low ≤ n → n ≤ high → (w.0 ≤ n) × (n ≤ w.1)
in_window low high n w is above below =
    let a : low ≡ w.0 = cc is in
    let b : high ≡ w.1 = cc is in
    (omega (arith, a, above), omega (arith, b, below))
