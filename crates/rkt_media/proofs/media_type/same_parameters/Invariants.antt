use Rattle.std.proofs.Common.{◌≡◌, drop}
use Rattle.std.specs.Cmp.Lexicographic.{pointwise}
use Rattle.rkt_media.specs.Media.{same_parameter}
use Rattle.rkt_media.proofs.media_type.same_parameters.Given as goal

-- the parameters so far are the same
abbrev pub invariant-loop-at : goal.invariant-loop-at
invariant-loop-at l = pointwise same_parameter l.ones l.others ≡ pointwise same_parameter (drop l.at l.ones) (drop l.at l.others)
