use Rattle.std.proofs.Common.{◌≤◌, ◌<◌, ◌-◌, length, vec_len}
use Rattle.rkt_script.specs.Streams.{Reads, ReadsOn}
use Rattle.rkt_script.specs.declared.stream.TheConstants.{GATE}
use Rattle.rkt_script.proofs.stream.read_all.Given as goal

abbrev pub invariant-loop-block : goal.invariant-loop-block
invariant-loop-block g l =
    Reads (g.S.Source.meaning l.initial.source) (g.S.Source.meaning l.source) l.all.items
    × (length l.all.items ≤ l.most)
    × (0 < vec_len l.block)
    × ReadsOn g.S.Source.polled GATE l.initial.source l.source

abbrev pub decreases-loop-block : goal.decreases-loop-block
decreases-loop-block g l = l.most - length l.all.items
