use Rattle.rkt_routing.proofs.Endings.{stands_first}
use Rattle.rkt_routing.proofs.routing.RoutingOf.new.Goals as goal

pub invariant_of-result : goal.invariant_of-result
invariant_of-result g c = (
  record { at = record { request = c.args.request; body = c.args.body; kept = c.args.ctx.kept }; faults = c.args.faults.now },
  rw (c.new.ensures, c.begin-stage.ensures) (stands_first _ (record { router = c.args.router.now; turns = c.args.turns }) c.args.request c.args.faults.now c.args.body c.args.ctx),
)

pub returns-clause-stands : goal.returns-clause-stands
returns-clause-stands g c = λ rule.
    rw (c.new.ensures, c.begin-stage.ensures) (stands_first _ (record { router = c.args.router.now; turns = c.args.turns }) c.args.request c.args.faults.now c.args.body c.args.ctx)
