-- What a text is read as.
use Rattle.std.specs.Prelude.{◌≡◌, ℕ, List, Option, Some, None}

-- a text is read as this value, or as none where it spells none
abbrev pub ReadAs : {X : Type 0} → (List ℕ → X → Type 0) → List ℕ → Option X → Type 0
ReadAs Spells text None = (x : _) → ¬ Spells text x
ReadAs Spells text (Some x) = Spells text x

-- the same of a text that may be missing, which is read as none
abbrev pub MaybeReadAs : {X : Type 0} → (List ℕ → X → Type 0) → Option (List ℕ) → Option X → Type 0
MaybeReadAs Spells None found = found ≡ None
MaybeReadAs Spells (Some text) found = ReadAs Spells text found
