use denote.Shadow.{shadow}
use denote.Text.{Utf8}
use Rattle.std.proofs.Common.{◌≡◌, ◌++◌, List, [], length}
use Rattle.rkt_media.specs.Media.{Parameter}
use Rattle.rkt_media.specs.MediaText.{ParametersThen, Exactly}
use Rattle.rkt_media.proofs.media_read.read_parameters.Given as goal

-- what is left is a text, and spells the parameters that are not read yet
abbrev pub invariant-reading : goal.invariant-reading
invariant-reading l =
    (shadow (Utf8 l.rest))
    × ((ps : List Parameter) → ParametersThen ps (Exactly []) l.fn.text → (qs : List Parameter) × (ps ≡ l.parameters.items ++ qs) × ParametersThen qs (Exactly []) l.rest)

abbrev pub decreases-reading : goal.decreases-reading
decreases-reading l = length l.rest
