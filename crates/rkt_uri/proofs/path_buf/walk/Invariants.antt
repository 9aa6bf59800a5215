use Rattle.std.proofs.Common.{◌≡◌, [], map, drop}
use Rattle.rkt_uri.proofs.Paths.{names_behind}
use Rattle.rkt_uri.proofs.path_buf.walk.Given as goal

-- what is left goes on from the names that are kept
abbrev pub invariant-loop-segment : goal.invariant-loop-segment
invariant-loop-segment l = names_behind (map (λ name. name.now) l.kept.items) (drop l.segment-index l.segments) ≡ names_behind [] l.segments
