use Rattle.std.proofs.Common.{◌≡◌}
use Rattle.rkt_board.proofs.Entries.{places, nones}
use Rattle.rkt_board.proofs.history.none_of.Given as goal

abbrev pub invariant-loop : goal.invariant-loop
invariant-loop g l = places l.entries.items ≡ nones l.counter
