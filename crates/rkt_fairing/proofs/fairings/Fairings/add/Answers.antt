use Rattle.rkt_fairing.proofs.Sound.{admitted_in}
use Rattle.rkt_fairing.proofs.fairings.Fairings.add.Goals as goal

pub invariant_of-self-2 : goal.invariant_of-self-2
invariant_of-self-2 g c = admitted_in c.args.fairing c.by-told.result _ _ _ c.make_room.ensures.same c.admit.ensures.admitted c.self.invariant
