-- Where a text is cut behind a closing bracket.
use Rattle.std.proofs.Common.{◌≡◌, ◌≢◌, ℕ, ◌+◌, ◌<◌, true, false, nat_lt, List, [], ◌∷◌, ◌++◌, length, take, get_or, refl, ◌∙◌, ap, arith}
use Rattle.std.proofs.lemmas.List.{take_more}
use Rattle.std.proofs.lemmas.Bool.Decides.{nat_tests}
use Rattle.std.proofs.lemmas.List.Sums.{position_or_len_is}
use Rattle.std.specs.List.{before_first, position_or_len, slice_range}
use Rattle.rkt_uri.specs.Host.{domain_in, is_close, is_colon}

other : (b : ℕ) → b ≢ 93 → is_close b ≡ false
other b differs = grind (arith, nat_tests, differs)

-- an address ends behind the first closing bracket
pub domain-closed : (text : List ℕ) (at : ℕ) → at < length text → get_or text at 0 ≡ 93 → ((i : ℕ) → i < at → get_or text i 0 ≢ 93) → slice_range text 0 (at + 1) ≡ domain_in text
domain-closed text at within here before =
    let place : position_or_len is_close text ≡ at = position_or_len_is is_close text at 0 (omega arith) (λ k below. other (get_or text k 0) (before k below)) (λ _. grind (arith, nat_tests, here)) in
    let inside : nat_lt at (length text) ≡ true = grind (arith, nat_tests, within) in
    let front : slice_range text 0 (at + 1) ≡ take (at + 1) text = grind arith in
    let more : take (at + 1) text ≡ take at text ++ 93 ∷ [] = take_more text at 0 within ∙ ap (λ (b : ℕ). take at text ++ b ∷ []) here in
    rw (place, inside) (front ∙ more)

-- what has none is a name
pub domain-open : (text : List ℕ) → ((i : ℕ) → i < length text → get_or text i 0 ≢ 93) → before_first is_colon text ≡ domain_in text
domain-open text never =
    let place : position_or_len is_close text ≡ length text = position_or_len_is is_close text (length text) 0 (omega arith) (λ k below. other (get_or text k 0) (never k below)) (λ below. absurd (omega arith)) in
    let outside : nat_lt (length text) (length text) ≡ false = grind (arith, nat_tests) in
    rw (place, outside) refl
