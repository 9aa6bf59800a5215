-- The first line of a text.
use Rattle.std.proofs.Common.{zero, suc, ◌≡◌, ◌≢◌, ◌<◌, ℕ, List, [], ◌∷◌, length, get_or, take, drop, ap, ◌∙◌, arith}
use Rattle.std.specs.List.{onto_first}
use Rattle.std.proofs.lemmas.Bool.Decides.{nat_tests}
use Rattle.rkt_script.specs.Script.{lines_of}

other_byte : (b : ℕ) (bs : List ℕ) → b ≢ 10 → lines_of (b ∷ bs) ≡ onto_first b (lines_of bs)
other_byte b bs other = grind (arith, nat_tests, other)

-- a text with its first line feed at i
pub line_at : (bs : List ℕ) (i : ℕ) → i < length bs → get_or bs i 0 ≡ 10 → ((k : ℕ) → k < i → get_or bs k 0 ≢ 10)
    → lines_of bs ≡ take (suc i) bs ∷ lines_of (drop (suc i) bs)
line_at [] i lt at before = absurd (omega (arith, lt))
line_at (b ∷ bs) zero lt at before = grind (arith, nat_tests, at)
line_at (b ∷ bs) (suc i) lt at before =
    other_byte b bs (before zero (omega arith)) ∙ ap (onto_first b) (line_at bs i (omega (arith, lt)) at (λ k klt. before (suc k) (omega (arith, klt))))

-- a text with no line feed
pub line_all : (bs : List ℕ) → 0 < length bs → ((k : ℕ) → k < length bs → get_or bs k 0 ≢ 10) → lines_of bs ≡ bs ∷ []
line_all [] some before = absurd (omega (arith, some))
line_all (b ∷ []) some before = other_byte b [] (before zero (omega arith))
line_all (b ∷ c ∷ bs) some before =
    other_byte b (c ∷ bs) (before zero (omega arith)) ∙ ap (onto_first b) (line_all (c ∷ bs) (omega arith) (λ k klt. before (suc k) (omega (arith, klt))))
