use Rattle.std.proofs.Common.{◌≡◌, ◌≤◌, length, vec_capacity}
use Rattle.rkt_fairing.specs.ShutsDown.{ShutsDownFrom}
use Rattle.rkt_fairing.proofs.shutting.shut_down.Given as goal

abbrev pub invariant-loop-n : goal.invariant-loop-n
invariant-loop-n g l = record {
  each : ShutsDownFrom g.P.ShutdownCallback.calling l.view l.fairings 0 l.calls.items;
  all : length l.calls.items ≡ l.n;
  room : length l.fairings.places.shutdown ≤ vec_capacity l.calls;
}
