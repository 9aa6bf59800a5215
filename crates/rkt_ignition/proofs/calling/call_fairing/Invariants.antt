use Rattle.std.proofs.Common.{[], ◌≤◌}
use Rattle.rkt_ignition.proofs.calling.call_fairing.Given as goal

abbrev pub invariant-loop-turn : goal.invariant-loop-turn
invariant-loop-turn g l = record {
  begun : g.P.IgniteCallback.calling.begun tt tt l.task (record { fairing = l.fn.fairing; building = l.fn.building }) (record { fairing = l.fairing; building = l.building }) [] l.turn;
  bounded : l.turn ≤ g.P.IgniteCallback.calling.pendings tt tt (record { fairing = l.fn.fairing; building = l.fn.building });
}
