-- The longest front of a text whose bytes pass a test, and what is behind it.
use Rattle.std.specs.Prelude.{ℕ, ◌≡◌, List, [], ◌∷◌, Bool, true, if◌then◌else◌}

abbrev pub run : (ℕ → Bool) → List ℕ → List ℕ
run test [] = []
run test (b ∷ bs) = if test b then b ∷ run test bs else []

abbrev pub behind_run : (ℕ → Bool) → List ℕ → List ℕ
behind_run test [] = []
behind_run test (b ∷ bs) = if test b then behind_run test bs else b ∷ bs

-- the text begins with a byte that passes the test
abbrev pub Starts : (ℕ → Bool) → List ℕ → Type 0
Starts test [] = ⊥
Starts test (b ∷ bs) = test b ≡ true
