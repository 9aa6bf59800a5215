use Rattle.std.proofs.Common.{◌≡◌, ◌-◌, ◌≤◌, drop, length, take}
use Rattle.rkt_ignition.specs.Reached.{layers, reached}
use Rattle.rkt_ignition.proofs.reach.reached.Given as goal

abbrev pub invariant-loop-layer : goal.invariant-loop-layer
invariant-loop-layer l = record {
  within : l.from ≤ length l.positions;
  left : layers l.nodes (length l.nodes - l._layer) (take l.from l.positions) (drop l.from l.positions) ≡ reached l.nodes;
}
