use Rattle.std.proofs.Common.{arith}
use Rattle.rkt_router.specs.CallLaws.{making_begins}
use Rattle.rkt_router.specs.Calls.{any_gate}
use Rattle.cases_fairing.proofs.turns.asked.Goals as goal

pub turn_request-requires : goal.turn_request-requires
turn_request-requires g c = record {
  underway = (
    any_gate,
    record { request = c.args.request.now; body = c.args.body.now; kept = c.args.ctx.now.kept },
    making_begins g.P.RequestCallback.calling any_gate 1 c.args.fairing.now tt {before = record { request = c.args.request.now; body = c.args.body.now; kept = c.args.ctx.now.kept }} (omega arith) c.start-task.ensures,
  );
}
