use Rattle.std.proofs.Common.{refl}
use Rattle.rkt_routing.proofs.Routes.{next_none, next_some}
use Rattle.rkt_routing.proofs.trying.begin_route.Goals as goal

pub returns-in-None-clause-gives : goal.returns-in-None-clause-gives
returns-in-None-clause-gives g c = λ rule first fits stands.
    c.forwarded.ensures.gives rule first
    (next_none _ first c.args.table.now c.args.live.now c.args.behind c.args.body c.args.status c.args.again c.in-None.ensures.next stands)

pub returns-in-Some-clause-gives : goal.returns-in-Some-clause-gives
returns-in-Some-clause-gives g c = λ rule first fits stands.
    next_some _ first c.args.table.now c.args.live.now _ c.args.behind c.args.body c.args.status c.args.again c.in-Some.position c.route-route.result.now c.start-task.result
    refl refl c.mount.ensures c.in-Some.ensures.next c.route-route.ensures c.start-task.ensures stands
