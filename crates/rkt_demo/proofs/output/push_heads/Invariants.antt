use Rattle.std.proofs.Common.{◌≡◌, ◌++◌, take, flat_map}
use Rattle.rkt_demo.specs.Output.{head_text}
use Rattle.rkt_demo.proofs.output.push_heads.Given as goal

abbrev pub invariant-loop-piece : goal.invariant-loop-piece
invariant-loop-piece l = l.out.items ≡ l.initial.out.items ++ flat_map head_text (take l.piece-index l.pieces)
