use Rattle.rkt_board.proofs.Holding.{tells_this}
use Rattle.rkt_board.proofs.Keeping.{keeps_clock}
use Rattle.rkt_board.proofs.turns.moment.Goals as goal

pub returns-clause-keeps : goal.returns-clause-keeps
returns-clause-keeps g c = keeps_clock _ _ _ _ c.args.board.now c.now.new.self c.requires.keeps (tells_this _ _ _ c.now.ensures.rises c.now.ensures.last)
