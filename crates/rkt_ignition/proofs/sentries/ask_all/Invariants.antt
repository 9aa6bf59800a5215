use Rattle.std.proofs.Common.{take}
use Rattle.rkt_ignition.specs.Aborted.{sentries_of}
use Rattle.rkt_ignition.specs.Reached.{Answer}
use Rattle.rkt_ignition.proofs.sentries.ask_all.Given as goal

abbrev pub invariant-loop-at : goal.invariant-loop-at
invariant-loop-at g l = Answer g.N.Aborts.may (sentries_of l.routes) l.rocket (take l.at-index l.asked) l.answers
