use Rattle.std.proofs.Common.{rules, ap}
use Rattle.rkt_turn.proofs.WireKept.{twins, settles}
use Rattle.rkt_turn.proofs.wire.Shutdown.rejoin.Goals as goal

pub join_seat-requires : goal.join_seat-requires
join_seat-requires g c = (search rules, search rules, search rules, search rules, twins g.R.Reason.allowed _ _ _ _ (ap (λ m. m.0.twin) c.other.invariant.view))

pub load-self-inside-requires : goal.load-self-inside-requires
load-self-inside-requires g c = (search rules, search rules, settles g.R.Reason.allowed _ _ _)
