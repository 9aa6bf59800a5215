-- What the pieces of a text say, by the tests that the code makes.
use Rattle.std.proofs.Common.{◌≡◌, ℕ, suc, ◌+◌, ◌||◌, ◌&&◌, Bool, true, false, cond, not, nat_lt, List, [], ◌∷◌, ◌++◌, length, Some, None, Result, Ok, Err, refl, sym, ap, ◌∙◌, arith, codes, fold}
use Rattle.std.specs.Char.{is_ascii_digit}
use Rattle.std.specs.List.{list_any, list_all, position_or_len}
use Rattle.std.specs.Result.{result_ok}
use Rattle.std.specs.Str.{all_ascii_digits, str_eq_ignore_ascii_case}
use Rattle.std.specs.Str.Parse.{ParsesUnsigned, digits_value}
use Rattle.std.proofs.lemmas.Bool.{cond-true, cond-false, and_from, and_parts, lt-ltb, ltb-true, false_from_ne_true, both_ways}
use Rattle.std.proofs.lemmas.Str.Parse.{IsNumeralModel, numerals_by_value, parse_digits, tells_all_ascii_digits}
use Rattle.rkt_grammar.specs.Numbers.{is_number}
use Rattle.rkt_cookie.specs.Cookie.{Parts}
use Rattle.rkt_cookie.specs.Reading.{seconds_of, valued, attribute_by, with_piece}

goes_on : (first : Bool) (place len : ℕ) (rest : Bool) → cond (not first) (1 + place) 0 ≡ suc len → (place ≡ len → rest ≡ false) → (first || rest) ≡ false
goes_on true place len rest e h = absurd (omega arith)
goes_on false place len rest e h = h (omega arith)

-- no element passes, where the first that does lies past the end
pub list_any_none : (p : ℕ → Bool) (xs : List ℕ) → position_or_len p xs ≡ length xs → list_any p xs ≡ false
list_any_none p [] e = refl
list_any_none p (x ∷ xs) e = goes_on (p x) (position_or_len p xs) (length xs) _ e (list_any_none p xs)

pub own_digits : IsNumeralModel (λ ds. all_ascii_digits ds ≡ true) (digits_value 10)
own_digits = numerals_by_value _ tells_all_ascii_digits

-- std's two tests that all are digits
pub all_digits : (ds : List ℕ) → list_all is_ascii_digit ds ≡ all_ascii_digits ds
all_digits [] = refl
all_digits (d ∷ ds) = ap (λ rest. is_ascii_digit d && rest) (all_digits ds)

pub seconds_parsed : {E : Type 0} (ds : List ℕ) (r : Result ℕ E) → list_all is_ascii_digit ds ≡ true → ParsesUnsigned 64 10 ds r → result_ok r ≡ seconds_of ds
seconds_parsed {E} ds (Ok x) all h =
    let digits : all_ascii_digits ds ≡ true = sym (all_digits ds) ∙ all in
    let k = parse_digits own_digits {E = E} 64 ds (Ok x) h digits in
    ap Some k.1 ∙ sym (cond-true _ _ _ (and_from _ _ digits (and_from _ _ (lt-ltb 0 (length ds) k.0.0) (lt-ltb _ _ k.0.1))))
seconds_parsed {E} ds (Err e) all h =
    let k = parse_digits own_digits {E = E} 64 ds (Err e) h (sym (all_digits ds) ∙ all) in
    sym (cond-false (is_number 64 ds) (Some (digits_value 10 ds)) None (false_from_ne_true (is_number 64 ds) (λ yes.
    let a = and_parts (all_ascii_digits ds) _ yes in
    let b = and_parts (nat_lt 0 (length ds)) _ a.1 in
    k (ltb-true _ _ b.0, ltb-true _ _ b.1))))

pub no_digits : (ds : List ℕ) → list_all is_ascii_digit ds ≡ false → seconds_of ds ≡ None
no_digits ds other =
    cond-false (is_number 64 ds) (Some (digits_value 10 ds)) None (false_from_ne_true (is_number 64 ds) (λ yes.
    both_ways _ other (all_digits ds ∙ (and_parts (all_ascii_digits ds) _ yes).0)))

-- a name of no attribute that has a value
pub valued_other : (name value : List ℕ) →
    str_eq_ignore_ascii_case name (codes "SameSite") ≡ false → str_eq_ignore_ascii_case name (codes "Path") ≡ false
    → str_eq_ignore_ascii_case name (codes "Domain") ≡ false → str_eq_ignore_ascii_case name (codes "Max-Age") ≡ false
    → str_eq_ignore_ascii_case name (codes "Expires") ≡ false → valued name value ≡ None
valued_other name value a b c d e =
    cond-false _ _ _ a ∙ cond-false _ _ _ b ∙ cond-false _ _ _ c ∙ cond-false _ _ _ d ∙ cond-false _ _ _ e

-- a name of an attribute that may have a value
pub attribute_by_valued : (name value : List ℕ) → str_eq_ignore_ascii_case name (codes "HttpOnly") ≡ false
    → str_eq_ignore_ascii_case name (codes "Secure") ≡ false → attribute_by name (Some value) ≡ valued name value
attribute_by_valued name value a b = cond-false _ _ _ a ∙ cond-false _ _ _ b

-- one more piece
pub fold_more : (cookie : Parts) (pieces : List (List ℕ)) (piece : List ℕ) → fold with_piece cookie (pieces ++ piece ∷ []) ≡ with_piece (fold with_piece cookie pieces) piece
fold_more cookie [] piece = refl
fold_more cookie (p ∷ ps) piece = fold_more (with_piece cookie p) ps piece
