use Rattle.std.proofs.Common.{◌≡◌, ◌++◌, drop}
use Rattle.rkt_ignition.specs.Reached.{children, children_from}
use Rattle.rkt_ignition.proofs.node.add_children.Given as goal

abbrev pub invariant-loop-at : goal.invariant-loop-at
invariant-loop-at l = l.positions ++ children_from l.at (drop l.at l.nodes) l.parent ≡ l.fn.positions ++ children l.nodes l.parent
