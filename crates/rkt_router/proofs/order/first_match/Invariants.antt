use Rattle.std.proofs.Common.{ℕ, ◌<◌, ◌≤◌}
use Rattle.std.specs.Prelude.{slice_index}
use Rattle.rkt_router.specs.Tries.{MatchesAt}
use Rattle.rkt_router.proofs.order.first_match.Given as goal

abbrev pub invariant-loop-place : goal.invariant-loop-place
invariant-loop-place g l = (k : ℕ) → l.from ≤ k → k < l.place → ¬ MatchesAt l.routes l.request (slice_index l.order k)
