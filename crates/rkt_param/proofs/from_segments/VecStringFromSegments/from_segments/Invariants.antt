use Rattle.std.proofs.Common.{◌≡◌, ◌-◌, ◌≤◌, length, map, string_bytes, take, vec_len}
use Rattle.rkt_param.proofs.from_segments.VecStringFromSegments.from_segments.Given as goal

-- the first segments are copied
abbrev pub invariant-loop-segment : goal.invariant-loop-segment
invariant-loop-segment l = (map string_bytes l.texts.items ≡ take (vec_len l.texts) l.segments) × (vec_len l.texts ≤ length l.segments)

abbrev pub decreases-loop-segment : goal.decreases-loop-segment
decreases-loop-segment l = length l.segments - vec_len l.texts
