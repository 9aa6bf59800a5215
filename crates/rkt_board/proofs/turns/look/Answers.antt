use Rattle.rkt_board.proofs.Holding.{tells_this, untripped}
use Rattle.rkt_board.proofs.Keeping.{keeps_look}
use Rattle.rkt_board.proofs.Tripping.{looked_back, stays_open}
use Rattle.rkt_board.proofs.turns.look.Goals as goal

pub enter_trip-requires-clause-keeps : goal.enter_trip-requires-clause-keeps
enter_trip-requires-clause-keeps g c = keeps_look _ _ _ _ c.args.board.now c.now-moment.new.self c.tripped-tripped.new.self c.requires.keeps
    (tells_this _ _ _ c.now-moment.ensures.rises c.now-moment.ensures.last) c.tripped-tripped.ensures.wire c.tripped-tripped.ensures.again c.tripped-tripped.ensures.load

pub returns-in-Some-clause-stays : goal.returns-in-Some-clause-stays
returns-in-Some-clause-stays g c = stays_open g.L.Link.Link.meaning _ _ c.args.by c.enter_trip.ensures.adds

pub returns-in_default-clause-word : goal.returns-in_default-clause-word
returns-in_default-clause-word g c =
    let after = keeps_look _ _ _ _ c.args.board.now c.now-moment.new.self c.tripped-tripped.new.self c.requires.keeps
    (tells_this _ _ _ c.now-moment.ensures.rises c.now-moment.ensures.last) c.tripped-tripped.ensures.wire c.tripped-tripped.ensures.again c.tripped-tripped.ensures.load in
    rw c.in_default.is (untripped _ _ _ _ _ _ after.holds after.legal.ordered (rw c.in_default.is at c.tripped-tripped.ensures.none))

pub returns-in-Some-clause-handle : goal.returns-in-Some-clause-handle
returns-in-Some-clause-handle g c = rw c.enter_trip.ensures.outside (looked_back _ _ c.tripped-tripped.ensures.wire c.tripped-tripped.ensures.again c.tripped-tripped.ensures.load)

pub returns-in_default-clause-handle : goal.returns-in_default-clause-handle
returns-in_default-clause-handle g c = looked_back _ _ c.tripped-tripped.ensures.wire c.tripped-tripped.ensures.again c.tripped-tripped.ensures.load
