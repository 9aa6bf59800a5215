use Rattle.rkt_board.proofs.Entries.{nones_more}
use Rattle.rkt_board.proofs.history.none_of.Goals as goal

pub loop-preserved : goal.loop-preserved
loop-preserved g c = rw c.in_ok-push.ensures.items (nones_more c.loop.entries.items c.loop.counter c.loop.invariant)
