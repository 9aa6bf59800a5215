use Rattle.std.proofs.Common.{ℕ, ◌+◌, Option, None, Some, length}
use Rattle.rkt_stream.specs.Flat.{Passed}
use Rattle.rkt_stream.proofs.Flats.{Moves}
use Rattle.rkt_stream.proofs.stream.reader_stream.read_on.Given as goal

abbrev one_if_some : {A : Type 0} → Option A → ℕ
one_if_some None = 0
one_if_some (Some x) = 1

abbrev pub invariant-loop-item : goal.invariant-loop-item
invariant-loop-item g l = record {
  moves : Moves g.S.Stream.flow g.S.Item.Source.meaning g.S.Stream.may_give l.gate.tripped (record { stream = l.fn.stream; item = l.fn.item }) (record { stream = l.stream; item = l.item });
  passed : Passed g.S.Stream.polled g.S.Item.Source.polled l.gate (length l.fn.buf) (record { stream = l.fn.stream; item = l.fn.item }) (record { stream = l.stream; item = l.item });
}

abbrev pub decreases-loop-item : goal.decreases-loop-item
decreases-loop-item g l = (g.S.Stream.flow l.stream).left + (g.S.Stream.flow l.stream).left + one_if_some l.item
