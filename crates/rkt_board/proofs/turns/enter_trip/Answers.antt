use Rattle.std.proofs.Common.{rules, ◌∙◌, sym}
use Rattle.rkt_board.proofs.Keeping.{keeps_trip}
use Rattle.rkt_board.proofs.Tripping.{shows_new}
use Rattle.rkt_board.proofs.turns.enter_trip.Goals as goal

pub returns-then-board-clause-trip : goal.returns-then-board-clause-trip
returns-then-board-clause-trip g c =
    let there = sym c.requires.keeps.counted.counts.tripped_is ∙ c.if-board.true in
    (there, sym (c.requires.keeps.holds.word there) ∙ c.requires.word.1)

pub returns-clause-trip : goal.returns-clause-trip
returns-clause-trip g c = shows_new _ _ _ _ _ c.push_reserved.ensures.items (sym c.requires.keeps.counted.counts.tripped_is ∙ c.if-board.false)

pub returns-clause-keeps : goal.returns-clause-keeps
returns-clause-keeps g c = keeps_trip _ _ _ _ c.args.board.now c.push_reserved.new.self c.args.by c.args.word c.args.moment c.requires.keeps
    (search rules) (search rules) (search rules) (c.requires.keeps.counted.counts.closed_is ∙ c.requires.unclosed) c.requires.word.0 c.requires.word.1 (g.met.P.Served.free.trips _ _ _ _ _ c.requires.word.2) c.requires.moment.0 c.requires.moment.1
