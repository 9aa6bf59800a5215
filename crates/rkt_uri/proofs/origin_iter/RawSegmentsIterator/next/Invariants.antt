use Rattle.std.proofs.Common.{◌≡◌, length}
use Rattle.rkt_uri.specs.Origin.{pieces}
use Rattle.rkt_uri.proofs.origin_iter.RawSegmentsIterator.next.Given as goal

-- the same pieces are left
abbrev pub invariant-loop-self : goal.invariant-loop-self
invariant-loop-self l = pieces 47 l.self-inside.rest.now ≡ l.fn.self

abbrev pub decreases-loop-self : goal.decreases-loop-self
decreases-loop-self l = length l.self-inside.rest.now
