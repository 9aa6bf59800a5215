use Rattle.std.proofs.Common.{◌≡◌, ◌++◌, drop}
use Rattle.rkt_ignition.specs.Reached.{all_opened}
use Rattle.rkt_ignition.proofs.reach.add_all_opened.Given as goal

abbrev pub invariant-loop-at : goal.invariant-loop-at
invariant-loop-at l = l.positions ++ all_opened l.nodes (drop l.at-index l.opening) ≡ l.fn.positions ++ all_opened l.nodes l.opening
