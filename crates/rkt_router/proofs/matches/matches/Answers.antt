use Rattle.std.proofs.Common.{rules, sym, ◌∙◌}
use Rattle.std.proofs.lemmas.Bool.{false≢true}
use Rattle.rkt_router.proofs.Decided.{matches_decided}
use Rattle.rkt_router.proofs.matches.matches.Goals as goal
use Rattle.rkt_router.proofs.matches.matches.Goals.{then-eq, else-eq}

pub returns-then-uri_matches : goal.returns-then-uri_matches
returns-then-uri_matches g c = elim c.if-eq.branch [
  | then-eq w ↦ matches_decided c.args.route.now c.args.request.now _ c.format_matches.result (search rules) (w.uri_matches.ensures.0 (sym w.value-is ∙ c.if-uri_matches.true))
      c.as_ref.ensures.value c.format_matches.ensures
  | else-eq w ↦ absurd (false≢true (sym w.if-eq.false ∙ sym w.value-is ∙ c.if-uri_matches.true))
]
