use Rattle.rkt_routing.proofs.Statuses.{page_called}
use Rattle.rkt_routing.proofs.catching.page_of_catcher.Goals as goal

pub returns-in-Ok-clause-gives : goal.returns-in-Ok-clause-gives
returns-in-Ok-clause-gives g c = λ rule first catcher found handles chosen.
    c.catch_over.ensures.gives rule first
    (page_called _ first c.args.table.now c.args.live.now c.args.status c.args.position catcher c.in-Ok.response found handles c.in-Ok.ensures chosen)

pub returns-in-Err-clause-gives : goal.returns-in-Err-clause-gives
returns-in-Err-clause-gives g c = λ rule first catcher found handles chosen. chosen.backs.hands_back
