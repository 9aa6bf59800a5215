use Rattle.std.proofs.Common.{sym, ◌∙◌}
use Rattle.rkt_routing.proofs.Routes.{caught_forward, walked_again}
use Rattle.rkt_routing.proofs.trying.forwarded.Goals as goal

pub returns-then-is_retried-clause-gives : goal.returns-then-is_retried-clause-gives
returns-then-is_retried-clause-gives g c = λ rule first forwards.
    rw c.set_method.ensures
    (walked_again _ first c.args.table.now c.args.live.now c.args.body c.args.status c.args.again (sym c.is_retried.ensures ∙ c.if-is_retried.true) forwards)

pub returns-clause-gives : goal.returns-clause-gives
returns-clause-gives g c = λ rule first forwards.
    caught_forward _ first c.args.table.now c.args.live.now c.args.body c.args.status c.args.again (sym c.is_retried.ensures ∙ c.if-is_retried.false) forwards
