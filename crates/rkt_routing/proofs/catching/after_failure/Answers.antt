use Rattle.rkt_routing.proofs.Statuses.{fails_last}
use Rattle.rkt_routing.proofs.catching.after_failure.Goals as goal

pub returns-then-status-eq500-clause-falls : goal.returns-then-status-eq500-clause-falls
returns-then-status-eq500-clause-falls g c = c.page.ensures.ends _

pub returns-then-status-eq500-clause-gives : goal.returns-then-status-eq500-clause-gives
returns-then-status-eq500-clause-gives g c = λ rule first caught.
    c.page.ensures.gives rule first
    (fails_last _ first c.args.table.now c.args.live.now c.args.status c.if-status-eq500.true caught)
