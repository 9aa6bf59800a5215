use Rattle.std.proofs.Common.{◌∙◌, ap}
use Rattle.rkt_router.specs.declared.turn.Final.TheVariants as final
use Rattle.rkt_routing.proofs.Statuses.{caught_err, caught_failed, caught_ok}
use Rattle.rkt_routing.proofs.catching.after_catch.Goals as goal

pub returns-in-Done-Ok-clause-gives : goal.returns-in-Done-Ok-clause-gives
returns-in-Done-Ok-clause-gives g c = λ rule first caught.
    caught_ok _ first c.args.table.now c.args.live.now c.args.status c.args.reply _ (c.in-Done-Ok.is ∙ ap final.Done c.in-Done-Ok.field-0-is) caught

pub returns-in-Done-Err-clause-gives : goal.returns-in-Done-Err-clause-gives
returns-in-Done-Err-clause-gives g c = λ rule first caught.
    c.after_failure.ensures.gives rule first (caught_err _ first c.args.table.now c.args.live.now c.args.status _ c.args.reply (c.in-Done-Err.is ∙ ap final.Done c.in-Done-Err.field-0-is) caught)

pub returns-in-FailedTurn-clause-gives : goal.returns-in-FailedTurn-clause-gives
returns-in-FailedTurn-clause-gives g c = λ rule first caught.
    c.after_failure-in-FailedTurn.ensures.gives rule first (caught_failed _ first c.args.table.now c.args.live.now c.args.status c.args.reply c.in-FailedTurn.is caught)

pub returns-in-Starved-clause-gives : goal.returns-in-Starved-clause-gives
returns-in-Starved-clause-gives g c = λ rule first caught. caught.backs.hands_back
