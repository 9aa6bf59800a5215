use Rattle.std.proofs.Common.{◌≡◌, false}
use Rattle.rkt_bench.proofs.pieces.sent.Given as goal

-- the last piece is still to come
abbrev pub invariant-loop : goal.invariant-loop
invariant-loop l = l.pieces.is_over ≡ false
