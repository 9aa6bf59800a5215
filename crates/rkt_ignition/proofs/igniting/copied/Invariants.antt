use Rattle.std.proofs.Common.{◌≡◌, take}
use Rattle.rkt_ignition.proofs.igniting.copied.Given as goal

abbrev pub invariant-loop-info : goal.invariant-loop-info
invariant-loop-info l = l.copy ≡ take l.info-index l.infos
