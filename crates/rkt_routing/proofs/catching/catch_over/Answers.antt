use Rattle.std.proofs.Common.{refl}
use Rattle.rkt_turn.specs.HandsBackLaws.{hands_back_more}
use Rattle.rkt_routing.proofs.Statuses.{called_caught}
use Rattle.rkt_routing.proofs.catching.catch_over.Goals as goal

pub returns-in-Ok-clause-gives : goal.returns-in-Ok-clause-gives
returns-in-Ok-clause-gives g c = λ rule first called.
    c.after_catch.ensures.gives rule first
    (called_caught _ first c.args.table.now c.args.live.now _ c.args.status c.args.position c.args.reply c.recorded-call.result refl refl c.in-Ok.ensures.ok
    (rw (← c.catcher_says.ensures) c.recorded-call.ensures) called)

pub returns-in-Ok-clause-falls : goal.returns-in-Ok-clause-falls
returns-in-Ok-clause-falls g c = c.after_catch.ensures.falls

pub returns-in-Err-clause-gives : goal.returns-in-Err-clause-gives
returns-in-Err-clause-gives g c = λ rule first called. hands_back_more _ _ _ called.chosen.backs.hands_back called.grows.shutdown
