-- The grammar of a list of accepted media types (RFC 9110, 12.5.1), a list (5.6.1) of media types with weights (12.4.2).
-- Between two commas, with blanks around it, stands a media type or nothing. A star is a token, so a range of media types
-- is spelled as a media type. A parameter that is called q, in any case, is a weight, wherever it stands among the
-- parameters (12.5.1). Of several weights, of which the RFC does not speak, each has to be one, and the first one counts.
use Rattle.std.specs.Prelude.{ℕ, zero, suc, ◌≡◌, ◌⊎◌, ⊤, List, [], ◌∷◌, Bool, true, ◌==◌, ◌||◌, ◌&&◌, nat_le, map}
use Rattle.std.specs.Char.{is_ascii_digit}
use Rattle.rkt_grammar.specs.Bytes.{comma, dot, digit_zero, digit_nine, digit_one}
use Rattle.rkt_media.specs.Runs.{behind_run}
use Rattle.rkt_media.specs.Media.{Media, Parameter}
use Rattle.rkt_media.specs.MediaText.{is_blank, ByteThen, MediaThen}
use Rattle.rkt_media.specs.Accept.{Weighed, is_weight, weighed}

-- a blank or a comma
abbrev pub is_gap : ℕ → Bool
is_gap b = is_blank b || b == comma

-- a digit that is at most this one
abbrev pub is_digit_to : ℕ → ℕ → Bool
is_digit_to most b = is_ascii_digit b && nat_le b most

-- so many digits at most, none of which is greater than this one
abbrev pub DigitsTo : ℕ → ℕ → List ℕ → Type 0
DigitsTo most left [] = ⊤
DigitsTo most zero (b ∷ bs) = ⊥
DigitsTo most (suc left) (b ∷ bs) = (is_digit_to most b ≡ true) × DigitsTo most left bs

-- nothing, or a point and up to three digits, none of which is greater than this one
abbrev pub FractionTo : ℕ → List ℕ → Type 0
FractionTo most [] = ⊤
FractionTo most (b ∷ bs) = (b ≡ dot) × DigitsTo most 3 bs

-- a weight from 0 to 1: behind 1 the digits are zeros
abbrev pub IsWeight : List ℕ → Type 0
IsWeight [] = ⊥
IsWeight (b ∷ bs) = ((b ≡ digit_zero) × FractionTo digit_nine bs) ⊎ ((b ≡ digit_one) × FractionTo digit_zero bs)

-- each parameter that is called q has a weight as its value
abbrev pub AreWeighed : List Parameter → Type 0
AreWeighed [] = ⊤
AreWeighed (p ∷ ps) = (is_weight p ≡ true → IsWeight p.1) × AreWeighed ps

-- the end or a comma, and then the rest
abbrev pub CommaThen : List ℕ → (List ℕ → Type 0) → Type 0
CommaThen text Rest = ((text ≡ []) × Rest text) ⊎ ByteThen comma text Rest

-- the text lists these media types, with their weights among the parameters
abbrev pub ListsMedia : List Media → List ℕ → Type 0
ListsMedia [] text = behind_run is_gap text ≡ []
ListsMedia (m ∷ ms) text =
    AreWeighed m.parameters
    × MediaThen (behind_run is_gap text) m (λ text. CommaThen (behind_run is_blank text) (ListsMedia ms))

-- the text spells these entries
abbrev pub SpellsAccept : List ℕ → List Weighed → Type 0
SpellsAccept text entries = (types : List Media) × ListsMedia types text × (entries ≡ map weighed types)

abbrev pub IsAccept : List ℕ → Type 0
IsAccept text = (entries : List Weighed) × SpellsAccept text entries

-- a text spells one list of accepted media types at most
abbrev pub SpellsOneAccept : Type 0
SpellsOneAccept = (text : List ℕ) (a b : List Weighed) → SpellsAccept text a → SpellsAccept text b → a ≡ b
