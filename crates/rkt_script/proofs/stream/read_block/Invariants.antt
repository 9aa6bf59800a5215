use Rattle.std.proofs.Common.{[]}
use Rattle.rkt_script.specs.Streams.{Awaits, Reads}
use Rattle.rkt_script.specs.declared.stream.TheConstants.{GATE}
use Rattle.rkt_script.proofs.stream.read_block.Given as goal

abbrev pub invariant-loop : goal.invariant-loop
invariant-loop g l =
    (goal.iterator-loop g).can_next l.iterator' × (goal.iterator-loop g).is_finite l.iterator'
    × Reads (g.S.Source.meaning l.initial.source) (g.S.Source.meaning l.source) []
    × Awaits g.S.Source.polled GATE l.initial.source l.source
