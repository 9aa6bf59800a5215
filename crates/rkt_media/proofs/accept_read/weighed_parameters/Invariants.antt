use denote.Shadow.{shadow}
use denote.Text.{Utf8}
use Rattle.std.proofs.Common.{◌≡◌, ◌++◌, List, ℕ, length, filter, not, unwrap_or}
use Rattle.rkt_media.specs.Media.{Parameter}
use Rattle.rkt_media.specs.MediaText.{ParametersThen, Exactly, NoSemicolon}
use Rattle.rkt_media.specs.Accept.{is_weight, weight_in}
use Rattle.rkt_media.proofs.accept_read.weighed_parameters.Given as goal

-- what is left is a text, and spells the parameters that are not read yet
abbrev pub invariant-reading : goal.invariant-reading
invariant-reading l =
    (shadow (Utf8 l.rest))
    × ((ps : List Parameter) (more : List ℕ) → ParametersThen ps (Exactly more) l.fn.text → NoSemicolon more
    → (qs : List Parameter) × (filter (λ p. not (is_weight p)) ps ≡ l.parameters.items ++ filter (λ p. not (is_weight p)) qs) × (weight_in ps ≡ unwrap_or l.weight (weight_in qs))
    × ParametersThen qs (Exactly more) l.rest)

abbrev pub decreases-reading : goal.decreases-reading
decreases-reading l = length l.rest
