use Rattle.rkt_fairing.proofs.Sound.{appended_in}
use Rattle.rkt_fairing.proofs.fairings.Fairings.append.Goals as goal

pub invariant_of-self-2 : goal.invariant_of-self-2
invariant_of-self-2 g c = appended_in g.F.Attach.key g.F.Attach.info c.take-slots.result.items _ _ _ c.make_room.ensures.same c.admit_all.ensures c.self.invariant
