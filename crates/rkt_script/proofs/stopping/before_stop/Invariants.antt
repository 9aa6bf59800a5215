use Rattle.std.proofs.Common.{take}
use Rattle.rkt_script.specs.Stopping.{NoneStops}
use Rattle.rkt_script.proofs.stopping.before_stop.Given as goal

abbrev pub invariant-loop-at : goal.invariant-loop-at
invariant-loop-at l = NoneStops (take l.at l.requests)
