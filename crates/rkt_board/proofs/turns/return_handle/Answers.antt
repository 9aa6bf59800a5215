use Rattle.rkt_board.proofs.Holding.{tells_this}
use Rattle.rkt_board.proofs.Keeping.{keeps_join, keeps_clock, with_handle}
use Rattle.rkt_board.proofs.Tripping.{stays_open}
use Rattle.rkt_board.proofs.turns.return_handle.Goals as goal

pub enter_trip-requires-clause-keeps : goal.enter_trip-requires-clause-keeps
enter_trip-requires-clause-keeps g c =
    let joined = keeps_join _ _ _ _ c.args.board.now c.args.handle c.rejoin.new.self c.requires.keeps c.rejoin.ensures.wire c.rejoin.ensures.looked c.rejoin.ensures.again in
    keeps_clock _ _ _ _ (with_handle c.args.board.now c.rejoin.new.self) c.now-moment.new.self joined (tells_this _ _ _ c.now-moment.ensures.rises c.now-moment.ensures.last)

pub returns-clause-stays : goal.returns-clause-stays
returns-clause-stays g c = stays_open g.L.Link.Link.meaning _ _ c.args.by c.enter_trip.ensures.adds
