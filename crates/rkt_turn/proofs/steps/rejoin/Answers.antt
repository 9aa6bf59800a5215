use Rattle.std.proofs.Common.{rules, List, length, ap, sym, ◌∙◌, subst}
use Rattle.rkt_turn.specs.Booked.{StartsWith}
use Rattle.rkt_turn.proofs.Counts.{length_without, longer_begins}
use Rattle.rkt_turn.proofs.TurnsKept.{joins, settles}
use Rattle.rkt_turn.proofs.steps.rejoin.Goals as goal

pub join_seat-requires : goal.join_seat-requires
join_seat-requires g c = let b = g.S.Booked in let r = c.requires in
    (search rules, search rules, search rules, search rules, joins b.name b.entries b.legal b.keeps b.number _ _ _ _ _ r.live r.first r.idle r.other_live r.other_idle)

pub load-requires : goal.load-requires
load-requires g c = let b = g.S.Booked in let r = c.requires in let now = c.join_seat.ensures.2 in
    (search rules, search rules, settles b.name b.entries b.legal b.keeps b.number _ _ _ _ (ap (λ m. m.0.spent) now ∙ r.live) (ap (λ m. m.0.turn) now ∙ r.idle))

pub returns-clause-out : goal.returns-clause-out
returns-clause-out g c = let p = ap (λ m. length m.0.out) c.load.ensures.2.0 in let q = ap (λ m. length m.0.out) c.join_seat.ensures.2 in p ∙ (q ∙ length_without _ _)

pub returns-clause-seen : goal.returns-clause-seen
returns-clause-seen g c = let p = ap (λ m. m.0.seen) c.load.ensures.2.0 in let q = ap (λ m. m.0.seen) c.join_seat.ensures.2 in
    subst (λ (z : List g.row.S-Entry.Denot × List g.row.S-Entry.Denot). StartsWith z.0 z.1) (λ i. (sym p i, q i)) (longer_begins _ _ c.load.ensures.2.1).0

pub returns-clause-other_seen : goal.returns-clause-other_seen
returns-clause-other_seen g c = let p = ap (λ m. m.0.seen) c.load.ensures.2.0 in let q = ap (λ m. m.0.other) c.join_seat.ensures.2 in
    subst (λ (z : List g.row.S-Entry.Denot × List g.row.S-Entry.Denot). StartsWith z.0 z.1) (λ i. (sym p i, q i)) (longer_begins _ _ c.load.ensures.2.1).1
