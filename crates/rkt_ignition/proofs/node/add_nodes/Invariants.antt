use Rattle.std.proofs.Common.{◌≡◌, ◌++◌, map, take}
use Rattle.rkt_ignition.specs.Reached.{node_of}
use Rattle.rkt_ignition.proofs.node.add_nodes.Given as goal

abbrev pub invariant-loop-sentry : goal.invariant-loop-sentry
invariant-loop-sentry g l = l.nodes ≡ l.fn.nodes ++ map node_of (take l.sentry-index l.sentries)
