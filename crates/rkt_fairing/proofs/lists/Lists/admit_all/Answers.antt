use Rattle.std.proofs.Common.{arith, ◌+◌, ◌≤◌}
use Rattle.rkt_fairing.proofs.Room.{fewer_room}
use Rattle.rkt_fairing.proofs.lists.Lists.admit_all.Goals as goal

pub admit-requires : goal.admit-requires
admit-requires g c =
    let le : 1 ≤ c.loop-slot.slot-iterator.rest.len = omega (arith, c.in-Some.ensures.steps.1) in
    fewer_room c.loop-slot.self c.loop-slot.slot-iterator.rest.len 1 le c.loop-slot.invariant.0

pub loop-slot-preserved : goal.loop-slot-preserved
loop-slot-preserved g c =
    let le : c.next.new.self.rest.len + 1 ≤ c.loop-slot.slot-iterator.rest.len = omega (arith, c.in-Some.ensures.steps.1) in (
      c.admit.ensures.room c.next.new.self.rest.len (fewer_room c.loop-slot.self c.loop-slot.slot-iterator.rest.len (c.next.new.self.rest.len + 1) le c.loop-slot.invariant.0),
      rw (c.admit.ensures.admitted, c.by-told.ensures) (rw c.in-Some.ensures.steps.0 at c.loop-slot.invariant.1),
    )
