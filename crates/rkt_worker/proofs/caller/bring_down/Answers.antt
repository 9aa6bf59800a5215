use Rattle.std.proofs.Common.{◌∙◌, ap, sym}
use Rattle.rkt_worker.proofs.Boards.{down_same}
use Rattle.rkt_worker.proofs.Resting.{callers_down, close_down, downed}
use Rattle.rkt_worker.proofs.caller.bring_down.Goals as goal

pub returns-then-board-clause-closes : goal.returns-then-board-clause-closes
returns-then-board-clause-closes g c =
    let tripped = sym c.requires.keeps.counted.counts.tripped_is ∙ c.if-board.true in
    let due = c.down.ensures.due.1 (record { tripped = tripped; up = c.requires.rest.up; unclosed = c.requires.rest.unclosed }) in
    close_down _ _ _ c.shut_down-calls.result c.requires.rest tripped (downed _ c.shut_down-calls.result _ _ c.down.result due c.down.ensures.adds)

pub returns-then-board-clause-callers : goal.returns-then-board-clause-callers
returns-then-board-clause-callers g c =
    let tripped = sym c.requires.keeps.counted.counts.tripped_is ∙ c.if-board.true in
    let due = c.down.ensures.due.1 (record { tripped = tripped; up = c.requires.rest.up; unclosed = c.requires.rest.unclosed }) in
    callers_down _ _ _ c.shut_down-calls.result c.requires.rest.callers (downed _ c.shut_down-calls.result _ _ c.down.result due c.down.ensures.adds)

pub down-requires-clause-caused : goal.down-requires-clause-caused
down-requires-clause-caused g c = rw c.requires.lent.tables c.shut_down-calls.ensures

pub returns-then-board-clause-trips : goal.returns-then-board-clause-trips
returns-then-board-clause-trips g c = down_same _ c.shut_down-calls.result _ _ c.down.result c.down.ensures.adds

pub returns-then-board-clause-handle : goal.returns-then-board-clause-handle
returns-then-board-clause-handle g c = ap (λ n. n.handle) c.down.ensures.outside
