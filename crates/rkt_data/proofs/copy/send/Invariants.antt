use Rattle.std.proofs.Common.{length, take, ◌-◌, ◌≤◌}
use Rattle.rkt_source.specs.Sink.{SinkKeeps, Feeds, Gains}
use Rattle.rkt_data.proofs.copy.send.Given as goal

abbrev pub invariant-loop-n : goal.invariant-loop-n
invariant-loop-n g l = SinkKeeps (g.K.Sink.meaning l.fn.sink) (g.K.Sink.meaning l.sink) × (l.n ≤ length l.piece) × Gains (g.K.Sink.meaning l.fn.sink) (g.K.Sink.meaning l.sink) (take l.n l.piece) × Feeds g.K.Sink.written l.fn.sink (take l.n l.piece) l.sink

abbrev pub decreases-loop-n : goal.decreases-loop-n
decreases-loop-n g l = length l.piece - l.n
