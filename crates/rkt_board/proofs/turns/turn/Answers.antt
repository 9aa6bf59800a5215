use Rattle.std.proofs.Common.{◌∙◌, ap, sym, subst}
use Rattle.rkt_turn.specs.HandsBack.{HandsBack}
use Rattle.rkt_board.proofs.Holding.{tells_this}
use Rattle.rkt_board.proofs.Keeping.{keeps_look}
use Rattle.rkt_board.proofs.Tripping.{looked_back}
use Rattle.rkt_board.proofs.turns.turn.Goals as goal

pub trip-requires-clause-keeps : goal.trip-requires-clause-keeps
trip-requires-clause-keeps g c = keeps_look _ _ _ _ c.args.board.now c.now-moment.new.self c.tripped.new.self c.requires.keeps
    (tells_this _ _ _ c.now-moment.ensures.rises c.now-moment.ensures.last) c.tripped.ensures.wire c.tripped.ensures.again c.tripped.ensures.load

pub returns-in-Some-clause-handle : goal.returns-in-Some-clause-handle
returns-in-Some-clause-handle g c =
    subst (λ h. HandsBack c.args.board.now.outside.handle h) (sym c.trip.ensures.same.1) (looked_back _ _ c.tripped.ensures.wire c.tripped.ensures.again c.tripped.ensures.load)

pub returns-in-None-clause-handle : goal.returns-in-None-clause-handle
returns-in-None-clause-handle g c =
    subst (λ h. HandsBack c.args.board.now.outside.handle h) (sym c.admit.ensures.same.1) (looked_back _ _ c.tripped.ensures.wire c.tripped.ensures.again c.tripped.ensures.load)
