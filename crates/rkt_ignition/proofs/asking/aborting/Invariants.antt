use Rattle.std.proofs.Common.{◌≡◌, ◌++◌, drop, filter}
use Rattle.rkt_ignition.specs.Reached.{aborts}
use Rattle.rkt_ignition.proofs.asking.aborting.Given as goal

abbrev pub invariant-loop-at : goal.invariant-loop-at
invariant-loop-at l = l.positions ++ filter (aborts l.nodes l.answers) (drop l.at-index l.reached) ≡ filter (aborts l.nodes l.answers) l.reached
