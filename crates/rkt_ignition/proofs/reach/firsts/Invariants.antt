use Rattle.std.proofs.Common.{◌≡◌, ◌++◌, drop, take}
use Rattle.rkt_ignition.specs.Reached.{firsts}
use Rattle.rkt_ignition.proofs.reach.firsts.Given as goal

abbrev pub invariant-loop-place : goal.invariant-loop-place
invariant-loop-place l =
    l.found ++ firsts l.nodes l.specialized (take l.place l.positions) (drop l.place l.positions) ≡ firsts l.nodes l.specialized (take l.from l.positions) (drop l.from l.positions)
