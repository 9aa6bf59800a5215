-- What std's `parse` answers, against the number that the digits spell.
use Rattle.std.proofs.Common.{◌≡◌, ◌==◌, ℕ, ◌^◌, ◌<◌, Bool, true, false, cond, List, length, get_or, Some, None, Result, Ok, Err, Decides, refl, ap, ◌∙◌}
use Rattle.std.specs.Result.{OkIff, result_ok}
use Rattle.std.specs.Str.{all_ascii_digits}
use Rattle.std.specs.Str.Parse.{digits_value, ParsesUnsigned}
use Rattle.std.proofs.lemmas.Bool.Decides.{Decides-and, Decides-ltb}
use Rattle.std.proofs.lemmas.Str.Parse.{IsNumeralModel, numerals_by_value, tells_all_ascii_digits, parse_plain}
use Rattle.std.proofs.lemmas.Bool.{false≢true, eq-eqb}
use Rattle.rkt_grammar.specs.Numbers.{is_number}
use Rattle.rkt_config.specs.Numbers.{number_below, has_leading_zero, number_without_zeros}

own : IsNumeralModel (λ ds. all_ascii_digits ds ≡ true) (digits_value 10)
own = numerals_by_value _ tells_all_ascii_digits

is_number-Decides : (k : ℕ) (text : List ℕ) → Decides (is_number k text) ((all_ascii_digits text ≡ true) × ((0 < length text) × (digits_value 10 text < 2 ^ k)))
is_number-Decides k text = Decides-and _ _ (λ e. e, λ e. e) (Decides-and _ _ (Decides-ltb 0 (length text)) (Decides-ltb (digits_value 10 text) (2 ^ k)))

by_test : {E P : Type 0} (b : Bool) → Decides b P → (r : Result ℕ E) (v : ℕ) → OkIff r P v → result_ok r ≡ cond b (Some v) None
by_test true d (Ok x) v h = ap Some h.1
by_test true d (Err e) v h = absurd (h (d.0 refl))
by_test false d (Ok x) v h = absurd (false≢true (d.1 h.0))
by_test false d (Err e) v h = refl

flat : {E : Type 0} (A B C : Type 0) (r : Result ℕ E) (v : ℕ) → OkIff r (A × B × C) v → OkIff r (A × (B × C)) v
flat A B C (Ok x) v h = ((h.0.0, (h.0.1, h.0.2)), h.1)
flat A B C (Err e) v h = λ all. h (all.0, all.1.0, all.1.1)

pub number_by_parse : {E : Type 0} (k : ℕ) (text : List ℕ) (r : Result ℕ E) → ParsesUnsigned k 10 text r → false ≡ (get_or text 0 0 == 43) → result_ok r ≡ number_below k text
number_by_parse k text r h plain =
    by_test (is_number k text) (is_number-Decides k text) r (digits_value 10 text) (flat _ _ _ r _ (parse_plain own k text r h (λ plus. false≢true (plain ∙ eq-eqb _ _ plus))))

pub number_without_zeros_by_parse : {E : Type 0} (text : List ℕ) (r : Result ℕ E) → ParsesUnsigned 32 10 text r → false ≡ (get_or text 0 0 == 43) → false ≡ has_leading_zero text → result_ok r ≡ number_without_zeros text
number_without_zeros_by_parse text r h plain zeros =
    number_by_parse 32 text r h plain ∙ ap (λ b. cond b None (number_below 32 text)) zeros
