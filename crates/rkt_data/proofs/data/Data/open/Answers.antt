use Rattle.rkt_data.proofs.CountedSources.{opened_drawn}
use Rattle.rkt_data.proofs.data.Data.open.Goals as goal

pub new-requires-clause-drawn : goal.new-requires-clause-drawn
new-requires-clause-drawn g c = rw c.unless_complete-tap.ensures (opened_drawn g.S.Source.meaning _ _ _ _ _ c.self.invariant.0)
