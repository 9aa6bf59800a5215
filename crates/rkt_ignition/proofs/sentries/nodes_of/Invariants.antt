use Rattle.std.proofs.Common.{◌≡◌, ◌++◌, drop, map}
use Rattle.rkt_ignition.specs.Aborted.{sentries_of}
use Rattle.rkt_ignition.specs.Reached.{node_of}
use Rattle.rkt_ignition.proofs.sentries.nodes_of.Given as goal

abbrev pub invariant-loop-route : goal.invariant-loop-route
invariant-loop-route g l = l.nodes ++ map node_of (sentries_of (drop l.route-index l.routes)) ≡ map node_of (sentries_of l.routes)
