-- The first place at which a test passes, or the end.
use Rattle.std.proofs.Common.{◌≡◌, ℕ, ◌≤◌, Bool, true, false, cond, nat_lt, not, List, length, Some, None, refl, arith}
use Rattle.std.specs.List.{position, position_or_len}
use Rattle.std.proofs.lemmas.Bool.Decides.{nat_tests}
use Rattle.std.proofs.lemmas.List.Sums.{prefix_len-le-length}

some_at : (t : Bool) (n i : ℕ) → cond t (Some n) None ≡ Some i → i ≡ n
some_at true n i e = cc
some_at false n i e = cc

none_at : (t : Bool) (n : ℕ) → cond t (Some n) None ≡ None → t ≡ false
none_at true n e = cc
none_at false n e = refl

pub at_place : {X : Type 0} (test : X → Bool) (xs : List X) (i : ℕ) → position test xs ≡ Some i → i ≡ position_or_len test xs
at_place test xs i e = some_at (nat_lt (position_or_len test xs) (length xs)) (position_or_len test xs) i e

ends_at : (n len : ℕ) → n ≤ len → nat_lt n len ≡ false → len ≡ n
ends_at n len within e = grind (arith, nat_tests, e)

pub at_end : {X : Type 0} (test : X → Bool) (xs : List X) → position test xs ≡ None → length xs ≡ position_or_len test xs
at_end test xs e = ends_at (position_or_len test xs) (length xs) (prefix_len-le-length (λ x. not (test x)) xs) (none_at (nat_lt (position_or_len test xs) (length xs)) (position_or_len test xs) e)

pub within : {X : Type 0} (test : X → Bool) (xs : List X) → position_or_len test xs ≤ length xs
within test xs = prefix_len-le-length (λ x. not (test x)) xs
