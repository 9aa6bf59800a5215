use Rattle.std.proofs.Common.{◌≤◌, take, length}
use Rattle.rkt_source.specs.Sink.{Gains}
use Rattle.rkt_script.specs.Streams.{WritesOn}
use Rattle.rkt_script.proofs.stream.write_all.Given as goal

abbrev pub invariant-loop : goal.invariant-loop
invariant-loop g l =
    (goal.iterator-loop g).can_next l.iterator' × (goal.iterator-loop g).is_finite l.iterator'
    × (l.at ≤ length l.bytes)
    × ((g.K.Sink.meaning l.initial.sink).faults ≤ (g.K.Sink.meaning l.sink).faults)
    × Gains (g.K.Sink.meaning l.initial.sink) (g.K.Sink.meaning l.sink) (take l.at l.bytes)
    × WritesOn g.K.Sink.written l.initial.sink (take l.at l.bytes) l.sink
