use Rattle.std.proofs.Common.{length, ◌-◌}
use Rattle.rkt_data.specs.CountedSource.{Pulled, Polls}
use Rattle.rkt_data.proofs.counted_source.pull.Given as goal

abbrev pub invariant-loop-n : goal.invariant-loop-n
invariant-loop-n g l = Pulled l.gate.tripped (g.S.Source.meaning l.fn.source) (g.S.Source.meaning l.source) l.n l.room × Polls g.S.Source.polled l.gate l.fn.source l.source

abbrev pub decreases-loop-n : goal.decreases-loop-n
decreases-loop-n g l = length l.initial.room - l.n
