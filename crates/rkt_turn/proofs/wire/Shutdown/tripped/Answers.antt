use Rattle.std.proofs.Common.{rules}
use Rattle.rkt_turn.proofs.WireKept.{looks}
use Rattle.rkt_turn.proofs.wire.Shutdown.tripped.Goals as goal

pub load-self-inside-requires : goal.load-self-inside-requires
load-self-inside-requires g c = (search rules, search rules, looks g.R.Reason.allowed _ _ _)
