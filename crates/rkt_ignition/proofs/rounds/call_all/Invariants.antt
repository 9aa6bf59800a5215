use Rattle.std.proofs.Common.{◌≡◌, length}
use Rattle.rkt_ignition.specs.Ignites.{Ignites}
use Rattle.rkt_ignition.proofs.rounds.call_all.Given as goal

abbrev pub invariant-loop-made : goal.invariant-loop-made
invariant-loop-made g l = record {
  ignites : Ignites g.P.IgniteCallback.calling g.F.Attach.key g.F.Attach.info (record { attached = l.fn.attached; building = l.fn.building }) l.calls (record { attached = l.attached; building = l.building });
  all : length l.calls ≡ l._made;
}
