use Rattle.std.proofs.Common.{take}
use Rattle.rkt_ignition.specs.Reached.{Answer}
use Rattle.rkt_ignition.proofs.asking.ask_all.Given as goal

abbrev pub invariant-loop-at : goal.invariant-loop-at
invariant-loop-at g l = Answer g.S.Aborts.may l.sentries l.rocket (take l.at-index l.asked) l.answers
