-- Grammars by cases on the bytes. Each word says what a text begins with, and what the rest of it is.
use Rattle.std.specs.Prelude.{ℕ, ◌≡◌, ◌⊎◌, Bool, true, List, [], ◌∷◌}

-- the byte b, and then the rest
abbrev pub Then : ℕ → (List ℕ → Type 0) → List ℕ → Type 0
Then b Rest [] = ⊥
Then b Rest (c ∷ cs) = (c ≡ b) × Rest cs

-- any number of bytes that pass the test, and then the rest
abbrev pub Many : (ℕ → Bool) → (List ℕ → Type 0) → List ℕ → Type 0
Many test Rest [] = Rest []
Many test Rest (c ∷ cs) = Rest (c ∷ cs) ⊎ ((test c ≡ true) × Many test Rest cs)

-- one byte at least that passes the test, and then the rest
abbrev pub Many1 : (ℕ → Bool) → (List ℕ → Type 0) → List ℕ → Type 0
Many1 test Rest [] = ⊥
Many1 test Rest (c ∷ cs) = (test c ≡ true) × Many test Rest cs

-- one byte that passes the test, and then the rest
abbrev pub One : (ℕ → Bool) → (List ℕ → Type 0) → List ℕ → Type 0
One test Rest [] = ⊥
One test Rest (c ∷ cs) = (test c ≡ true) × Rest cs
