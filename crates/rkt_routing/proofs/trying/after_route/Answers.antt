use Rattle.std.proofs.Common.{◌∙◌, ap}
use Rattle.rkt_router.specs.declared.turn.Final.TheVariants as final
use Rattle.rkt_routing.proofs.Routes.{replied_error, replied_failed, replied_forward, replied_success}
use Rattle.rkt_routing.proofs.trying.after_route.Goals as goal

pub returns-in-Done-Success-clause-gives : goal.returns-in-Done-Success-clause-gives
returns-in-Done-Success-clause-gives g c = λ rule first replied.
    replied_success _ first c.args.table.now c.args.live.now c.args.position c.args.again c.args.reply _ (c.in-Done-Success.is ∙ ap final.Done c.in-Done-Success.field-0-is) replied

pub returns-in-Done-Error-clause-gives : goal.returns-in-Done-Error-clause-gives
returns-in-Done-Error-clause-gives g c = λ rule first replied.
    replied_error _ first c.args.table.now c.args.live.now c.args.position c.args.again c.args.reply _ (c.in-Done-Error.is ∙ ap final.Done c.in-Done-Error.field-0-is) replied

pub returns-in-Done-Forward-clause-gives : goal.returns-in-Done-Forward-clause-gives
returns-in-Done-Forward-clause-gives g c = λ rule first replied.
    replied_forward _ first c.args.table.now c.args.live.now c.args.position c.args.again c.args.reply _ _ (c.in-Done-Forward.is ∙ ap final.Done c.in-Done-Forward.field-0-is) replied

pub returns-in-FailedTurn-clause-gives : goal.returns-in-FailedTurn-clause-gives
returns-in-FailedTurn-clause-gives g c = λ rule first replied.
    replied_failed _ first c.args.table.now c.args.live.now c.args.position c.args.again c.args.reply c.in-FailedTurn.is replied

pub returns-in-Starved-clause-gives : goal.returns-in-Starved-clause-gives
returns-in-Starved-clause-gives g c = λ rule first replied. replied.backs.hands_back
