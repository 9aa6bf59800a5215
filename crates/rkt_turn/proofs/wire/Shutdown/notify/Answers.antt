use Rattle.std.proofs.Common.{rules, arith}
use Rattle.rkt_turn.proofs.WireKept.{trips}
use Rattle.rkt_turn.proofs.wire.Shutdown.notify.Goals as goal

pub compare_exchange-found-requires : goal.compare_exchange-found-requires
compare_exchange-found-requires g c = (search rules, search rules, trips g.R.Reason.allowed _ _ _ _ (c.word-new.ensures.allowed (omega arith)))
