-- Which media types are accepted, with their weights (RFC 9110, 12.4.2), and which of them is preferred: one of the greatest
-- weight, of those one of the most specific, and of those the first with the most parameters. The order among equal weights
-- is this project's.
use Rattle.std.specs.Prelude.{ℕ, ◌+◌, ◌-◌, ◌*◌, ◌/◌, ◌≡◌, ◌<◌, ◌⊎◌, List, [], ◌∷◌, Bool, not, codes, filter, length, slice_get, Option, Some, None, unwrap_or, if◌then◌else◌}
use Rattle.std.specs.Char.{is_ascii_digit}
use Rattle.std.specs.Str.{str_eq_ignore_ascii_case}
use Rattle.rkt_grammar.specs.Bytes.{digit_zero}
use Rattle.rkt_media.specs.Media.{Media, Parameter, specificity_of}

-- a media type, and its weight in thousandths
pub record Weighed : Type 0 where
  pub media : Media
  pub weight : ℕ

-- the parameter is a weight: it is called q, in any case
abbrev pub is_weight : Parameter → Bool
is_weight p = str_eq_ignore_ascii_case p.0 (codes "q")

-- the digits of a number, where the first counts so many thousandths, and each further one a tenth of that
abbrev pub thousandths : ℕ → List ℕ → ℕ
thousandths unit [] = 0
thousandths unit (digit ∷ digits) = unit * (digit - digit_zero) + thousandths (unit / 10) digits

-- a weight in thousandths
abbrev pub weight_of : List ℕ → ℕ
weight_of text = thousandths 1000 (filter is_ascii_digit text)

-- the weight that a parameter is, if it is one
abbrev pub weight_said : Parameter → Option ℕ
weight_said p = if is_weight p then Some (weight_of p.1) else None

-- the first weight of these parameters, and 1000 thousandths where there is none
abbrev pub weight_in : List Parameter → ℕ
weight_in [] = 1000
weight_in (p ∷ ps) = unwrap_or (weight_said p) (weight_in ps)

-- the media type without its weight, and the weight
abbrev pub weighed : Media → Weighed
weighed m = record {
  media = record { top = m.top; sub = m.sub; parameters = filter (λ p. not (is_weight p)) m.parameters };
  weight = weight_in m.parameters;
}

-- the first goes before the second wherever they stand: by weight, then by specificity, then by the number of parameters
abbrev pub Outranks : Weighed → Weighed → Type 0
Outranks a b = (b.weight < a.weight) ⊎ ((a.weight ≡ b.weight) × ((specificity_of b.media < specificity_of a.media)
    ⊎ ((specificity_of a.media ≡ specificity_of b.media) × (length b.media.parameters < length a.media.parameters))))

-- this entry is preferred: none outranks it, and it outranks each that comes before it
pub record IsPreferred (entries : List Weighed) (at : ℕ) (entry : Weighed) : Type 0 where
  pub there : slice_get entries at ≡ Some entry
  pub best : (k : ℕ) (other : Weighed) → slice_get entries k ≡ Some other → ¬ Outranks other entry
  pub first : (k : ℕ) (other : Weighed) → k < at → slice_get entries k ≡ Some other → Outranks entry other

-- this is the media type of the preferred entry
abbrev pub Prefers : List Weighed → Media → Type 0
Prefers entries media = (at : ℕ) × (entry : Weighed) × IsPreferred entries at entry × (media ≡ entry.media)

-- of a list one media type is preferred
abbrev pub PrefersOne : Type 0
PrefersOne = (entries : List Weighed) (a b : Media) → Prefers entries a → Prefers entries b → a ≡ b
