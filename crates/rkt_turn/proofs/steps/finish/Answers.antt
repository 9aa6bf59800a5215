use Rattle.std.proofs.Common.{◌≡◌, Option, Some, None, sym, ap, ◌∙◌, subst}
use mathlib.Core.Option.{some-injective}
use Rattle.rkt_turn.specs.TurnRule.{Took}
use Rattle.rkt_turn.proofs.TurnsKept.{closes}
use Rattle.rkt_turn.proofs.steps.finish.Goals as goal

pub unreachable-requires : goal.unreachable-requires
unreachable-requires g c = let b = g.S.Booked in let r = c.requires in
    let t = closes b.name b.entries b.legal b.keeps b.number _ _ _ _ _ r.live r.first r.idle r.opened r.out c.close_with-closed.ensures.values.2 in
    let same : Some t.0 ≡ None = some-injective _ _ (sym t.1 ∙ c.take-slot.ensures.value) ∙ c.in-None.is in cc

pub returns : goal.returns
returns g c = let b = g.S.Booked in let r = c.requires in
    let t = closes b.name b.entries b.legal b.keeps b.number _ _ _ _ _ r.live r.first r.idle r.opened r.out c.close_with-closed.ensures.values.2 in
    let same : Some t.0 ≡ Some c.in-Some.state = some-injective _ _ (sym t.1 ∙ c.take-slot.ensures.value) ∙ c.in-Some.is in
    record { took = subst (λ x. Took b.name b.entries b.legal b.keeps b.number c.args.seat.me.0 x) (ap (λ o. some_or t.0 o) same) t.2 }
  where
    some_or : g.row.S.Denot → Option g.row.S.Denot → g.row.S.Denot
    some_or d (Some y) = y
    some_or d None = d
