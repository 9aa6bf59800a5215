use Rattle.std.proofs.Common.{rules, ◌∷◌, ◌+◌, ap, sym, ◌∙◌, ℕ, Some}
use Rattle.atomic_table.specs.Table.{rest}
use Rattle.rkt_turn.proofs.TurnsKept.{takes_it}
use Rattle.rkt_turn.proofs.steps.try_take.Goals as goal

pub compare_exchange-found-requires : goal.compare_exchange-found-requires
compare_exchange-found-requires g c = let b = g.S.Booked in let r = c.requires in (
  search rules,
  search rules,
  takes_it b.name b.entries b.legal b.keeps b.number _ _ _ _ _ r.live r.opened (ap (λ (k : ℕ). k + 1) (sym r.number)),
)

pub exchange-requires : goal.exchange-requires
exchange-requires g c = let took = c.compare_exchange-found.ensures.2.0 (search rules) in (search rules, (_, ap (λ m. m.1) took.2 ∙ ap (λ cs. (0, Some took.0) ∷ rest cs) (sym (ap (λ m. m.1) took.2))))
