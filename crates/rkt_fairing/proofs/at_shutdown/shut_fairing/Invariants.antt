use Rattle.std.proofs.Common.{[], ◌≤◌}
use Rattle.rkt_fairing.proofs.at_shutdown.shut_fairing.Given as goal

abbrev pub invariant-loop-turn : goal.invariant-loop-turn
invariant-loop-turn g l = record {
  begun : g.P.ShutdownCallback.calling.begun l.fairing l.view l.task tt tt [] l.turn;
  bounded : l.turn ≤ g.P.ShutdownCallback.calling.pendings l.fairing l.view tt;
}
