use Rattle.std.proofs.Common.{refl}
use Rattle.rkt_turn.specs.HandsBackLaws.{hands_back_more}
use Rattle.rkt_routing.proofs.Routes.{tried_replied}
use Rattle.rkt_routing.proofs.trying.route_over.Goals as goal

pub returns-in-Ok-clause-gives : goal.returns-in-Ok-clause-gives
returns-in-Ok-clause-gives g c = λ rule first tried.
    c.after_route.ensures.gives rule first
    (tried_replied _ first c.args.table.now c.args.live.now _ c.args.position c.args.again c.args.reply c.recorded-call.result refl refl c.in-Ok.ensures.ok
    (rw (← c.handler_says.ensures) c.recorded-call.ensures) tried)

pub returns-in-Err-clause-gives : goal.returns-in-Err-clause-gives
returns-in-Err-clause-gives g c = λ rule first tried. hands_back_more _ _ _ tried.between.backs.hands_back tried.grows.shutdown
