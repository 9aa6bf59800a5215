use Rattle.std.proofs.Common.{[], ◌≤◌}
use Rattle.rkt_fairing.proofs.at_liftoff.lift_fairing.Given as goal

abbrev pub invariant-loop-turn : goal.invariant-loop-turn
invariant-loop-turn g l = record {
  begun : g.P.LiftoffCallback.calling.begun tt l.view l.task (record { fairing = l.fn.fairing; shutdown = l.fn.shutdown }) (record { fairing = l.fairing; shutdown = l.shutdown }) [] l.turn;
  bounded : l.turn ≤ g.P.LiftoffCallback.calling.pendings tt l.view (record { fairing = l.fn.fairing; shutdown = l.fn.shutdown });
}
