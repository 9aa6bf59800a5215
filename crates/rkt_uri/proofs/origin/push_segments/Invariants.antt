use Rattle.std.proofs.Common.{◌≡◌}
use Rattle.rkt_uri.specs.Origin.{decoded}
use Rattle.rkt_uri.proofs.Pieces.{kept_by}
use Rattle.rkt_uri.proofs.origin.push_segments.Given as goal

abbrev pub invariant-loop-piece : goal.invariant-loop-piece
invariant-loop-piece l = l.segments ≡ kept_by decoded l.yielded
