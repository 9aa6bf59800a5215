use Rattle.std.proofs.Common.{◌≡◌, fold}
use Rattle.rkt_fairing.specs.Fairings.{HasRoom, added, seen_lists}
use Rattle.rkt_fairing.proofs.lists.Lists.admit_all.Given as goal

abbrev pub invariant-loop-slot : goal.invariant-loop-slot
invariant-loop-slot g l =
    HasRoom l.self l.slot-iterator.rest.len
    × (fold (added g.F.Attach.key g.F.Attach.info) (seen_lists l.self) l.slot-iterator.rest.items ≡ fold (added g.F.Attach.key g.F.Attach.info) (seen_lists l.fn.self) l.fn.slots.items)
