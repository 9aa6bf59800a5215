use Rattle.std.specs.Prelude.{IsSome}
use Rattle.cases_exchange.proofs.exchanged.drive.Given as goal

-- it may be polled once more
abbrev pub invariant-loop-before : goal.invariant-loop-before
invariant-loop-before l = IsSome l.exchange.phase
