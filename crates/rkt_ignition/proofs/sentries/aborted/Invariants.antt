use Rattle.std.proofs.Common.{◌≡◌, ◌++◌, drop}
use Rattle.rkt_ignition.specs.Aborted.{aborted_at, sentries_of}
use Rattle.rkt_ignition.proofs.sentries.aborted.Given as goal

abbrev pub invariant-loop-at : goal.invariant-loop-at
invariant-loop-at g l = l.aborted ++ aborted_at (sentries_of l.routes) (drop l.at-index l.positions) ≡ aborted_at (sentries_of l.routes) l.positions
