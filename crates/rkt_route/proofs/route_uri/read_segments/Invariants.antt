use Rattle.std.proofs.Common.{◌≡◌, ◌==◌, not, filter, length, map}
use Rattle.rkt_route.specs.Segment.{segment_of}
use Rattle.rkt_route.proofs.route_uri.read_segments.Given as goal

abbrev pub invariant-loop-piece : goal.invariant-loop-piece
invariant-loop-piece l = l.segments ≡ map segment_of (filter (λ piece. not (length piece == 0)) (map (λ x. x.now) l.yielded))
