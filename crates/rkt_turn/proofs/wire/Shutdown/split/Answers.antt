use Rattle.std.proofs.Common.{rules}
use Rattle.rkt_turn.proofs.WireKept.{copies}
use Rattle.rkt_turn.proofs.wire.Shutdown.split.Goals as goal

pub split_seat-seat-requires : goal.split_seat-seat-requires
split_seat-seat-requires g c = (search rules, search rules, copies g.R.Reason.allowed _ _)
