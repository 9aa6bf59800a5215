-- Lists of entries, and the pass that entered each.
use Rattle.std.specs.Prelude.{◌≡◌, ◌⊎◌, ℕ, ◌==◌, nat_lt, if◌then◌else◌, List, [], ◌∷◌, ◌++◌, filter, length, ⊤}

module _ {E : Type 0} where
  -- the list begins with all that was seen
  abbrev pub StartsWith : List E → List E → Type 0
  StartsWith list seen = (rest : List E) × (list ≡ seen ++ rest)

  -- one of the two lists begins with the other
  abbrev pub InOneOrder : List E → List E → Type 0
  InOneOrder xs ys = StartsWith ys xs ⊎ StartsWith xs ys

  -- the longer of two lists, or the first
  abbrev pub longer : List E → List E → List E
  longer xs ys = if nat_lt (length xs) (length ys) then ys else xs

  -- the entries of the pass with this number
  abbrev pub of : (E → ℕ) → ℕ → List E → List E
  of number n list = filter (λ e. number e == n) list

  -- each entry is of the pass with this number
  abbrev pub AreOf : (E → ℕ) → ℕ → List E → Type 0
  AreOf number n [] = ⊤
  AreOf number n (e ∷ es) = (number e ≡ n) × AreOf number n es

  -- the list is the one found, or that with one more entry of the pass n
  abbrev pub Adds : (E → ℕ) → ℕ → List E → List E → Type 0
  Adds number n base list = (list ≡ base) ⊎ ((e : E) × (number e ≡ n) × (list ≡ base ++ e ∷ []))
