use Rattle.std.proofs.Common.{rules, ◌++◌, ap, sym, ◌∙◌, subst}
use Rattle.rkt_turn.specs.Booked.{AreOf}
use Rattle.rkt_turn.proofs.TurnsKept.{starts, begins}
use Rattle.rkt_turn.proofs.turnstile.Turnstile.new.Goals as goal

pub vacant-requires : goal.vacant-requires
vacant-requires g c = let b = g.S.Booked in starts b.name b.entries b.legal b.keeps b.number c.args.name

pub compare_exchange-requires : goal.compare_exchange-requires
compare_exchange-requires g c = let b = g.S.Booked in let me = c.in-Ok.ensures.4 in (
  search rules,
  search rules,
  begins b.name b.entries b.legal b.keeps b.number _ _ _ _ (ap (λ m. m.0.spent) me) (ap (λ m. m.0.opened) me) (ap (λ m. m.0.turn) me),
)

pub give-requires-clause-adds : goal.give-requires-clause-adds
give-requires-clause-adds g c = let b = g.S.Booked in let me = c.in-Ok.ensures.4 in let now = c.compare_exchange.ensures.2.1 in let es = b.entries c.args.state in
    (es, ap (λ m. m.0.base ++ es) (sym now), subst (λ n. AreOf b.number n es) (sym (ap (λ m. m.0.number) now ∙ ap (λ m. m.0.number) me)) c.requires.first)
