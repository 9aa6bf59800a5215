use Rattle.std.proofs.Common.{arith}
use Rattle.rkt_router.specs.CallLaws.{making_begins}
use Rattle.rkt_router.specs.Calls.{any_gate}
use Rattle.cases_fairing.proofs.turns.responded.Goals as goal

pub turn_response-requires : goal.turn_response-requires
turn_response-requires g c = record {
  underway = (
    any_gate,
    record { response = c.args.response.now; kept = c.args.ctx.now.kept },
    making_begins g.Q.ResponseCallback.calling any_gate 1 c.args.fairing.now c.args.request.now {before = record { response = c.args.response.now; kept = c.args.ctx.now.kept }} (omega arith) c.start-task.ensures,
  );
}
