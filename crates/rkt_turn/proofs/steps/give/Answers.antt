use Rattle.std.proofs.Common.{rules, ◌∷◌, ◌++◌, ap, sym, ◌∙◌, subst, Some}
use Rattle.atomic_table.specs.Table.{rest}
use Rattle.rkt_turn.specs.Booked.{AreOf}
use Rattle.rkt_turn.proofs.TurnsKept.{gives_it}
use Rattle.rkt_turn.proofs.steps.give.Goals as goal

pub store-requires : goal.store-requires
store-requires g c = let b = g.S.Booked in let now = c.exchange-nothing.ensures.3 in let same = ap (λ m. m.0) now in let r = c.requires in let adds = r.adds in (
  search rules,
  search rules,
  gives_it b.name b.entries b.legal b.keeps b.number _ _ _ c.exchange-nothing.new.seat.me c.args.state adds.0 (ap (λ m. m.1) now ∙ ap (λ cs. (0, Some c.args.state) ∷ rest cs) r.slot) (ap (λ v. v.spent) same ∙ r.live) (ap (λ v. v.turn) same ∙ r.turn)
      (ap (λ v. v.name) same ∙ r.name) r.legal r.keeps (adds.1 ∙ ap (λ v. v.base ++ adds.0) (sym same))
      (subst (λ n. AreOf b.number n adds.0) (ap (λ v. v.number) (sym same)) adds.2),
)
