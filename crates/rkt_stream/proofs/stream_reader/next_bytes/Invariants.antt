use Rattle.rkt_stream.proofs.Joinings.{Passed}
use Rattle.rkt_stream.specs.Flow.{Passes}
use Rattle.rkt_stream.specs.Joining.{IsEmpty}
use Rattle.rkt_stream.proofs.stream_reader.next_bytes.Given as goal

abbrev pub invariant-loop-item : goal.invariant-loop-item
invariant-loop-item g l = record { passed : Passed (g.T.Stream.flow l.fn.stream) (g.T.Stream.flow l.stream); asked : Passes g.T.Stream.polled IsEmpty l.gate l.fn.stream l.stream }

abbrev pub decreases-loop-item : goal.decreases-loop-item
decreases-loop-item g l = (g.T.Stream.flow l.stream).left
