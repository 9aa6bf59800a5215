-- Lists whose items are read one after another.
use Rattle.std.proofs.Common.{zero, suc, ◌≡◌, ◌+◌, ◌≤◌, ◌++◌, List, [], ◌∷◌, ℕ, Some, None, length, take, slice_get, ap, ◌∙◌, add-one, arith}
use Rattle.std.proofs.Math.Seq.{take-suc}
use Rattle.std.proofs.lemmas.Option.{slice_get_within, get_or_from_slice_get}

-- one item more
pub take-one_more : {X : Type 0} (xs : List X) (n : ℕ) (x : X) → slice_get xs n ≡ Some x → take (n + 1) xs ≡ take n xs ++ x ∷ []
take-one_more xs n x there = rw add-one (take-suc xs n x (slice_get_within xs n x there) ∙ ap (λ y. take n xs ++ y ∷ []) (get_or_from_slice_get xs n x x there))

-- where there is no item, the list is over
pub le_from_none : {X : Type 0} (xs : List X) (n : ℕ) → slice_get xs n ≡ None → length xs ≤ n
le_from_none [] n e = omega arith
le_from_none (x ∷ xs) zero e = cc
le_from_none (x ∷ xs) (suc n) e = let more = le_from_none xs n e in omega arith
