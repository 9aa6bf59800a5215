use Rattle.rkt_demo.proofs.Mounting.{root_spelled}
use Rattle.rkt_demo.proofs.sample.with_catchers.Goals as goal

pub unreachable-requires : goal.unreachable-requires
unreachable-requires g c = (rw c.in-Refused.is at c.in-Err.ensures.refused) root_spelled
