use Rattle.std.proofs.Common.{◌≡◌, take, flat_map}
use Rattle.rkt_demo.specs.Output.{body_bytes}
use Rattle.rkt_demo.proofs.output.body_of.Given as goal

abbrev pub invariant-loop-piece : goal.invariant-loop-piece
invariant-loop-piece l = l.body.items ≡ flat_map body_bytes (take l.piece-index l.pieces)
