-- Where a text leaves a grammar. A grammar is the fact that a text is of it.
use Rattle.std.specs.Prelude.{ℕ, ◌≡◌, ◌≤◌, Bool, true, List, [], ◌∷◌, ◌++◌, ⊤, length, take, nat_lt, codes, ◌==◌, Option, Some, None, if◌then◌else◌, ◌||◌, ◌&&◌, nat_le, not}
use Rattle.std.specs.List.{list_any, position_or_len, after_first}
use Rattle.rkt_grammar.specs.Bytes.{tab, space, delete}

-- some text of the grammar begins so
abbrev pub Begins : (List ℕ → Type 0) → List ℕ → Type 0
Begins IsText front = (rest : List ℕ) × IsText (front ++ rest)

-- the text is not of the grammar, and its longest front that begins a text of the grammar has this length
pub record LeavesAt (IsText : List ℕ → Type 0) (text : List ℕ) (at : ℕ) : Type 0 where
  pub outside : ¬ IsText text
  pub within : at ≤ length text
  pub begins : Begins IsText (take at text)
  pub longest : (n : ℕ) → n ≤ length text → Begins IsText (take n text) → n ≤ at

-- each byte passes the test
abbrev pub OnlyOf : (ℕ → Bool) → List ℕ → Type 0
OnlyOf test [] = ⊤
OnlyOf test (b ∷ bs) = (test b ≡ true) × OnlyOf test bs

-- some byte passes the test
abbrev pub has_byte : (ℕ → Bool) → List ℕ → Bool
has_byte test text = nat_lt (position_or_len test text) (length text)

-- what follows the first byte that passes the test, if there is one
abbrev pub behind_first : (ℕ → Bool) → List ℕ → Option (List ℕ)
behind_first test text = if has_byte test text then Some (after_first test text) else None

-- the second list begins with the first
abbrev pub IsFrontOf : {X : Type 0} → List X → List X → Type 0
IsFrontOf {X} front all = (rest : List X) × (all ≡ front ++ rest)

-- a digit or a letter
abbrev pub is_alphanumeric : ℕ → Bool
is_alphanumeric b = (nat_le 48 b && nat_le b 57) || (nat_le 65 b && nat_le b 90) || (nat_le 97 b && nat_le b 122)

-- a byte of a token (RFC 9110, 5.6.2)
abbrev pub is_token_byte : ℕ → Bool
is_token_byte b = is_alphanumeric b || list_any (λ c. c == b) (codes "!#$%&'*+-.^_`|~")

-- a byte of a field's value (RFC 9110, 5.5), and of a quoted pair (5.6.4): a tab, a space, a visible byte, or one past ASCII
abbrev pub is_field_value_byte : ℕ → Bool
is_field_value_byte b = b == tab || (nat_le space b && not (b == delete))
