use Rattle.std.proofs.Common.{◌≡◌, ◌≤◌, length, vec_capacity}
use Rattle.rkt_fairing.specs.Lifts.{LiftsFrom}
use Rattle.rkt_fairing.proofs.lifting.lift_all.Given as goal

abbrev pub invariant-loop-n : goal.invariant-loop-n
invariant-loop-n g l = record {
  chain : LiftsFrom g.P.LiftoffCallback.calling l.view 0 (record { fairings = l.fn.fairings; shutdown = l.fn.shutdown }) l.calls.items (record { fairings = l.fairings; shutdown = l.shutdown });
  all : length l.calls.items ≡ l.n;
  places : l.fairings.places ≡ l.fn.fairings.places;
  room : length l.fn.fairings.places.liftoff ≤ vec_capacity l.calls;
}
