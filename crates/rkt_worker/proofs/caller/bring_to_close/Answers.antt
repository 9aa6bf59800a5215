use Rattle.rkt_worker.proofs.Boards.{close_same}
use Rattle.rkt_worker.proofs.Resting.{closed_so}
use Rattle.rkt_worker.proofs.caller.bring_to_close.Goals as goal

pub returns-clause-closed : goal.returns-clause-closed
returns-clause-closed g c = (closed_so _ _ _ c.close.result (c.close.ensures.due.1 c.requires.closes) c.close.ensures.adds c.requires.callers).0

pub returns-clause-callers : goal.returns-clause-callers
returns-clause-callers g c = (closed_so _ _ _ c.close.result (c.close.ensures.due.1 c.requires.closes) c.close.ensures.adds c.requires.callers).1

pub returns-clause-trips : goal.returns-clause-trips
returns-clause-trips g c = close_same _ _ _ c.close.result c.close.ensures.adds
