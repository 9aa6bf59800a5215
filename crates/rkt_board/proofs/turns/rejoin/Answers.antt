use Rattle.rkt_board.proofs.Keeping.{keeps_join}
use Rattle.rkt_board.proofs.turns.rejoin.Goals as goal

pub returns-clause-keeps : goal.returns-clause-keeps
returns-clause-keeps g c = keeps_join _ _ _ _ c.args.board.now c.args.handle c.rejoin.new.self c.requires.keeps c.rejoin.ensures.wire c.rejoin.ensures.looked c.rejoin.ensures.again
