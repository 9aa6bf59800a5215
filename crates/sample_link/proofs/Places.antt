-- Where a number stands in a list.
use Rattle.std.proofs.Common.{◌≡◌, ℕ, ◌+◌, ◌<◌, ◌∙◌, Bool, true, nat_eq, is_some, List, [], ◌∷◌, Option, Some, length, get_or, ap, refl, sym, arith}
use Rattle.std.proofs.lemmas.Bool.Decides.{nat_tests}
use Rattle.std.proofs.lemmas.Grind.{common_steps}
use Rattle.std.proofs.lemmas.Iterator.Adapters.{position_from-zero}
use Rattle.std.proofs.lemmas.List.Quantifiers.{position-Some}
use Rattle.std.proofs.lemmas.List.Sorted.{IsPermutation-swap_remove}
use Rattle.std.specs.List.{list_any, position, position_from, swap_remove}
use Rattle.rkt_source.specs.Memory.{is_listed}
use Rattle.sample_link.specs.Calls.{UsesUp}

found_from : (p : ℕ → Bool) (i : ℕ) (xs : List ℕ) → is_some (position_from p i xs) ≡ list_any p xs
found_from p i [] = refl
found_from p i (x ∷ xs) = grind (arith, common_steps, found_from p (i + 1) xs)

-- a number has a place where it is listed
pub place_if_listed : (xs : List ℕ) (number : ℕ) (place : Option ℕ) → place ≡ position (λ n. nat_eq n number) xs → is_some place ≡ is_listed xs number
place_if_listed xs number place is = ap is_some (is ∙ position_from-zero (λ n. nat_eq n number) xs) ∙ found_from (λ n. nat_eq n number) 0 xs

-- what is taken from the place of a number is that number
pub used_up : (xs new : List ℕ) (number place x : ℕ) → Some place ≡ position (λ n. nat_eq n number) xs → x ≡ get_or xs place x → new ≡ swap_remove xs place x → length new + 1 ≡ length xs → UsesUp number xs new
used_up xs new number place x found is taken fewer =
    let at = position-Some (λ n. nat_eq n number) xs place x (sym found) in
    let within : place < length xs = at.0 in
    let test : nat_eq x number ≡ true = rw is at.1 in
    let same : x ≡ number = grind (arith, nat_tests) in
    record { others = rw (taken, ← same) (IsPermutation-swap_remove xs place x within is); fewer = sym fewer }
