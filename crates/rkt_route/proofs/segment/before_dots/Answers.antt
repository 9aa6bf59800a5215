use Rattle.rkt_route.proofs.Strips.{stripped-end}
use Rattle.rkt_route.proofs.segment.before_dots.Goals as goal

pub returns : goal.returns
returns c = stripped-end _ _ _ c.strip_suffix.ensures.cases
