use Rattle.rkt_media.proofs.Ranks.{KeptBest}
use Rattle.rkt_media.proofs.accept_entry.preferred_place.Given as goal

abbrev pub invariant-loop-at : goal.invariant-loop-at
invariant-loop-at l = KeptBest l.entries l.at l.best
