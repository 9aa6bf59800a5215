-- Pieces with a separator between them, and with one before each.
use Rattle.std.proofs.Common.{◌≡◌, ℕ, List, [], ◌∷◌, ◌++◌, refl, sym, ◌∙◌, ap, append_assoc, ◌==◌, true, false, length, nat_lt, suc, arith, Some}
use Rattle.std.proofs.lemmas.Bool.Decides.{nat_tests}
use Rattle.std.specs.List.{join_with_byte}
use Rattle.rkt_uri.specs.Origin.{led, joined_unless_none, is_ampersand}
use Rattle.rkt_grammar.specs.Grammar.{behind_first}

pub join_with_byte-led : (c : ℕ) (piece : List ℕ) (pieces : List (List ℕ)) → join_with_byte c (piece ∷ pieces) ≡ piece ++ led c pieces
join_with_byte-led c piece [] = sym (append_nil piece)
  where
    append_nil : (xs : List ℕ) → xs ++ [] ≡ xs
    append_nil [] = refl
    append_nil (x ∷ xs) = ap (λ (ys : List ℕ). x ∷ ys) (append_nil xs)
join_with_byte-led c piece (next ∷ pieces) = ap (λ (more : List ℕ). piece ++ (c ∷ more)) (join_with_byte-led c next pieces)

pub led-append : (c : ℕ) (xs : List (List ℕ)) (y : List ℕ) → led c (xs ++ y ∷ []) ≡ led c xs ++ c ∷ y
led-append c [] y = append_nil (c ∷ y)
  where
    append_nil : (xs : List ℕ) → xs ++ [] ≡ xs
    append_nil [] = refl
    append_nil (x ∷ xs) = ap (λ (ys : List ℕ). x ∷ ys) (append_nil xs)
led-append c (x ∷ xs) y = ap (λ (more : List ℕ). (c ∷ x) ++ more) (led-append c xs y) ∙ sym (append_assoc (c ∷ x) (led c xs) (c ∷ y))

some_length : (b : ℕ) (bs : List ℕ) → (length (b ∷ bs) == 0) ≡ true → ⊥
some_length b bs e = grind (arith, nat_tests, e)

pub led_none : (c : ℕ) (ps : List (List ℕ)) → (length (led c ps) == 0) ≡ true → join_with_byte c ps ≡ []
led_none c [] e = refl
led_none c (p ∷ ps) e = absurd (some_length c (p ++ led c ps) e)

pub led_some : (c : ℕ) (ps : List (List ℕ)) → (length (led c ps) == 0) ≡ false → led c ps ≡ c ∷ join_with_byte c ps
led_some c [] e = absurd (cc e)
led_some c (p ∷ ps) e = ap (λ (xs : List ℕ). c ∷ xs) (sym (join_with_byte-led c p ps))

zero_lt_suc : (n : ℕ) → nat_lt 0 (suc n) ≡ true
zero_lt_suc n = grind (arith, nat_tests)

pub behind_first-led : (ps : List (List ℕ)) → behind_first is_ampersand (led 38 ps) ≡ joined_unless_none 38 ps
behind_first-led [] = refl
behind_first-led (p ∷ ps) = rw (zero_lt_suc (length (p ++ led 38 ps))) (ap Some (sym (join_with_byte-led 38 p ps)))

pub led_empty : (c : ℕ) (ps : List (List ℕ)) → (length (led c ps) == 0) ≡ true → led c ps ≡ []
led_empty c [] e = refl
led_empty c (p ∷ ps) e = absurd (some_length c (p ++ led c ps) e)
