use Rattle.rkt_board.proofs.Holding.{tells_this}
use Rattle.rkt_board.proofs.Keeping.{keeps_clock}
use Rattle.rkt_board.proofs.turns.enter_seen.Goals as goal

pub enter_trip-requires-clause-keeps : goal.enter_trip-requires-clause-keeps
enter_trip-requires-clause-keeps g c = keeps_clock _ _ _ _ c.args.board.now c.now-moment.new.self c.requires.keeps (tells_this _ _ _ c.now-moment.ensures.rises c.now-moment.ensures.last)

pub returns-clause-tripped : goal.returns-clause-tripped
returns-clause-tripped g c some = c.enter_trip.ensures.trip.0
