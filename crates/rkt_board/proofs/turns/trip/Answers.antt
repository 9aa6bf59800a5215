use Rattle.std.proofs.Common.{rules, ◌∙◌, sym}
use Rattle.rkt_board.proofs.Keeping.{keeps_trip}
use Rattle.rkt_board.proofs.Tripping.{may_down}
use Rattle.rkt_board.proofs.turns.trip.Goals as goal

pub returns-clause-keeps : goal.returns-clause-keeps
returns-clause-keeps g c = keeps_trip _ _ _ _ c.args.board.now c.push_reserved.new.self c.args.by c.args.word c.args.moment c.requires.keeps
    (search rules) (search rules) (search rules) (search rules) c.requires.word.0 c.requires.word.1 (g.met.P.Served.free.trips _ _ _ _ _ c.requires.word.2) c.requires.moment.0 c.requires.moment.1

pub returns-clause-given : goal.returns-clause-given
returns-clause-given g c =
    let counts = c.requires.keeps.counted.counts in
    may_down _ _ _ _ _ c.push_reserved.ensures.items c.requires.keeps.legal.ordered (sym counts.tripped_is ∙ c.if-board.false) (sym counts.closed_is ∙ c.if-board-2.false)
