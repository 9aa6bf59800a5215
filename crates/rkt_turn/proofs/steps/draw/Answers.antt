use Rattle.std.proofs.Common.{rules}
use Rattle.rkt_turn.proofs.TurnsKept.{splits}
use Rattle.rkt_turn.proofs.steps.draw.Goals as goal

pub split_seat-requires : goal.split_seat-requires
split_seat-requires g c = let b = g.S.Booked in let r = c.requires in
    (search rules, search rules, splits b.name b.entries b.legal b.keeps b.number _ _ _ r.live r.first r.idle r.opened r.next)
