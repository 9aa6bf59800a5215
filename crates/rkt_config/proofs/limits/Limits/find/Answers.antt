use Rattle.rkt_config.proofs.Joins.{limit_of_join}
use Rattle.rkt_config.proofs.limits.Limits.find.Goals as goal

pub returns-clause-law : goal.returns-clause-law
returns-clause-law c =
    λ _. limit_of_join c.args.self.now c.args.layers.now c.in_ok-piece.pieces.now c.in_ok-piece.piece.now c.as_bytes.result.now c.longest.result c.in_ok-piece.ensures.cases.0 c.as_bytes.ensures.value c.longest.ensures
