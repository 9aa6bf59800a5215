use Rattle.rkt_turn.specs.Pass.{IsPassOf, IsIdle}
use Rattle.rkt_bench.proofs.turns.add_all.Given as goal

abbrev pub invariant-loop : goal.invariant-loop
invariant-loop g l = IsPassOf l.lock l.pass × IsIdle l.pass
