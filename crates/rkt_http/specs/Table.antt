-- Tables by code.
use Rattle.std.specs.Prelude.{ℕ, List, [], ◌∷◌, Option, Some, None, ◌==◌, if◌then◌else◌}

-- what the first row of this code has
abbrev pub row_at : {X : Type 0} → ℕ → List (ℕ × X) → Option X
row_at code [] = None
row_at code (row ∷ rows) = if row.0 == code then Some row.1 else row_at code rows
