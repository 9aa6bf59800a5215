use Rattle.std.proofs.Common.{rules, arith}
use Rattle.rkt_board.proofs.Holding.{tells_this}
use Rattle.rkt_board.proofs.Keeping.{keeps_end, keeps_clock, opens_one, room_some, with_clock}
use Rattle.rkt_board.proofs.turns.end.Goals as goal

pub push_reserved-requires : goal.push_reserved-requires
push_reserved-requires g c =
    let some = opens_one _ _ _ _ c.args.board.now c.args.by c.args.number _ c.requires.keeps c.requires.opened in
    let room = room_some _ _ _ _ c.args.board.now c.requires.keeps some in
    omega (arith, room, c.args.board.now.log.records.ok.0)

pub overflow_sub-board : goal.overflow_sub-board
overflow_sub-board g c = let some = opens_one _ _ _ _ c.args.board.now c.args.by c.args.number _ c.requires.keeps c.requires.opened in omega (arith, some)

pub returns-clause-keeps : goal.returns-clause-keeps
returns-clause-keeps g c =
    let after = keeps_clock _ _ _ _ c.args.board.now c.now-moment.new.self c.requires.keeps (tells_this _ _ _ c.now-moment.ensures.rises c.now-moment.ensures.last) in
    keeps_end _ _ _ _ (with_clock c.args.board.now c.now-moment.new.self) c.push_reserved.new.self c.args.by c.args.number c.now-moment.result c.args.entry after
    (search rules) (search rules) c.requires.opened
    (λ run is. let r = c.requires.ran run is in (r.0, omega (arith, r.1, c.now-moment.ensures.rises), r.2))
    c.requires.cut (c.requires.caused c.now-moment.result c.now-moment.ensures.rises) (search rules) (search rules)
