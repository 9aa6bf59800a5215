-- Limits, each kept under a name in lower case, in the order of these names.
use Rattle.std.specs.Prelude.{◌≡◌, ◌≤◌, ◌⊎◌, ℕ, List, [], ◌∷◌, ◌++◌, Option, Some, None, All, length, codes}
use Rattle.std.specs.Fmt.{decimal}
use Rattle.std.specs.List.{join_by}
use Rattle.std.specs.Str.{bytes_eq}
use Rattle.std.specs.Map.{lookup}
use Rattle.rkt_grammar.specs.Bytes.{slash}
use Rattle.rkt_data.specs.declared.data_stream.ByteUnit.{ByteUnit}

-- a front of whole layers of a name: the name, or what stands before one of its slashes
abbrev pub IsFront : List ℕ → List ℕ → Type 0
IsFront front name = (name ≡ front) ⊎ ((rest : List ℕ) × (name ≡ front ++ slash ∷ rest))

-- the limit of the longest front of a name that has one
pub record IsOfLongest (limits : List (List ℕ × ByteUnit)) (name : List ℕ) (limit : ByteUnit) : Type 0 where
  pub front : List ℕ
  pub is_front : IsFront front name
  pub kept : lookup (bytes_eq front) limits ≡ Some limit
  pub longest : All (λ entry. IsFront entry.0 name → length entry.0 ≤ length front) limits

-- what is found for a name: that limit, or nothing where no front has a limit
abbrev pub IsLimitOf : List (List ℕ × ByteUnit) → List ℕ → Option ByteUnit → Type 0
IsLimitOf limits name None = All (λ entry. ¬ IsFront entry.0 name) limits
IsLimitOf limits name (Some limit) = IsOfLongest limits name limit

-- a name has one answer
abbrev pub HasOneLimit : Type 0
HasOneLimit =
    (limits : List (List ℕ × ByteUnit)) (name : List ℕ) (a b : Option ByteUnit)
    → IsLimitOf limits name a
    → IsLimitOf limits name b
    → a ≡ b

-- the limits where none is set
abbrev pub default_limits : List (List ℕ × ByteUnit)
default_limits =
    (codes "bytes", record { 0 = 8192 })
    ∷ (codes "data-form", record { 0 = 2097152 })
    ∷ (codes "file", record { 0 = 1048576 })
    ∷ (codes "form", record { 0 = 32768 })
    ∷ (codes "json", record { 0 = 1048576 })
    ∷ (codes "msgpack", record { 0 = 1048576 })
    ∷ (codes "string", record { 0 = 8192 })
    ∷ []

-- one limit, as it prints: its name, and how many bytes
abbrev pub limit_text : List ℕ × ByteUnit → List ℕ
limit_text entry = entry.0 ++ codes " = " ++ decimal entry.1.0

-- all of them, in the order of their names
abbrev pub limits_text : List (List ℕ × ByteUnit) → List ℕ
limits_text limits = join_by limit_text (codes ", ") limits
