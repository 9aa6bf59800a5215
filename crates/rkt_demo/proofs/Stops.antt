-- How many requests may be served.
use Rattle.std.proofs.Common.{zero, suc, ◌≡◌, ◌<◌, ◌≤◌, ℕ, List, [], ◌∷◌, Some, length, slice_get, take, refl, arith, subst, ltb, Bool, true, false, ◌⊎◌, inl, inr, None, get_or}
use Rattle.std.proofs.lemmas.Option.{same_Some, slice_get_cases}
use borrow.Author.Tests.{ltb-true, ltb-false}
use Rattle.rkt_script.specs.Stopping.{IsStop, MayServe, NoneStops, StandBefore}
use Rattle.rkt_script.specs.declared.script.ScriptRequest.{ScriptRequest}

-- none of some requests stands for `/stop` at a place among them
pub none_at : (requests : List ScriptRequest) (n k : ℕ) (request : ScriptRequest) → NoneStops (take n requests) → k < n → slice_get requests k ≡ Some request → ¬ IsStop request
none_at [] n k request none within there = cc
none_at (r ∷ rs) zero k request none within there = absurd (omega (arith, within))
none_at (r ∷ rs) (suc n) zero request none within there = subst (λ (x : ScriptRequest). ¬ IsStop x) (same_Some r request there) none.0
none_at (r ∷ rs) (suc n) (suc k) request none within there = none_at rs n k request none.1 (omega (arith, within)) there

-- so a front with none for `/stop` is no longer than what stands before the first one
front_within : (requests : List ScriptRequest) (n k : ℕ) → StandBefore requests n → k ≤ length requests → NoneStops (take k requests) → k ≤ n
front_within requests n k before within none = by_place (slice_get_cases requests n).1
  where
    by_order : (t : Bool) → ltb n k ≡ t → (request : ScriptRequest) → slice_get requests n ≡ Some request → k ≤ n
    by_order true is request there = absurd (none_at requests k n request none (ltb-true n k is) there (before.first request there))
    by_order false is request there = ltb-false n k is

    by_place : ((request : ScriptRequest) × (n < length requests) × (slice_get requests n ≡ Some request) × (get_or requests n request ≡ request)) ⊎ ((length requests ≤ n) × (slice_get requests n ≡ None)) → k ≤ n
    by_place (inl there) = by_order (ltb n k) refl there.0 there.2
    by_place (inr past) = omega (arith, past.0, within)

-- all that stand before the first one are served, and maybe more
pub may_serve : (requests : List ScriptRequest) (n m : ℕ) → StandBefore requests n → n ≤ m → m ≤ length requests → MayServe requests m
may_serve requests n m before more within = record {
  within = within;
  front = λ k inside none. let reaches : k ≤ n = front_within requests n k before inside none in omega (arith, reaches, more);
}
