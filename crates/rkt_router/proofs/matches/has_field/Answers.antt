use Rattle.std.proofs.Common.{sym, ◌∙◌}
use Rattle.std.proofs.lemmas.Bool.{false≢true}
use Rattle.rkt_route.proofs.Among.{among_on}
use Rattle.rkt_router.proofs.matches.has_field.Goals as goal

pub loop-found-preserved : goal.loop-found-preserved
loop-found-preserved g c =
    among_on _ _ _ _ _ c.loop-found.invariant c.in-Some.ensures.steps (λ same. false≢true (sym c.if-is_field.false ∙ c.is_field.ensures.1 same))
