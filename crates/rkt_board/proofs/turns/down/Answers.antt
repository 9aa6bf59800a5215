use Rattle.std.proofs.Common.{rules}
use Rattle.rkt_board.proofs.Keeping.{keeps_down}
use Rattle.rkt_board.proofs.turns.down.Goals as goal

pub returns-clause-keeps : goal.returns-clause-keeps
returns-clause-keeps g c = keeps_down _ _ _ _ c.args.board.now c.push_reserved.new.self c.args.by c.args.calls c.requires.keeps
    (search rules) (search rules) (search rules) (search rules) (search rules) c.requires.caused
