use Rattle.rkt_routing.proofs.Statuses.{page_answers}
use Rattle.rkt_routing.proofs.catching.page.Goals as goal

pub returns-in-Ok-clause-gives : goal.returns-in-Ok-clause-gives
returns-in-Ok-clause-gives g c = λ rule first pages.
    page_answers _ first c.args.table.now c.args.live.now c.args.status.code c.in-Ok.response c.in-Ok.ensures pages

pub returns-in-Err-clause-gives : goal.returns-in-Err-clause-gives
returns-in-Err-clause-gives g c = λ rule first pages. pages.backs.hands_back
