use Rattle.std.proofs.Common.{◌≡◌, List, ℕ, drop, Some, false}
use Rattle.rkt_media.specs.MediaText.{behind_quoted}
use Rattle.rkt_media.proofs.media_read.quoted_len.Given as goal

-- what is left ends where the whole string ends
abbrev pub invariant-loop-at : goal.invariant-loop-at
invariant-loop-at l = (more : List ℕ) → behind_quoted false l.inside ≡ Some more → behind_quoted l.escaped (drop l.at l.inside) ≡ Some more
