use Rattle.std.proofs.Common.{arith}
use Rattle.rkt_router.specs.CallLaws.{making_begins}
use Rattle.rkt_router.specs.Calls.{any_gate}
use Rattle.cases_author.proofs.called.handled.Goals as goal

pub loop-turn-init : goal.loop-turn-init
loop-turn-init g c = λ some. (
  c.args.body,
  c.args.ctx.now.kept,
  making_begins g.H.Handler.calling any_gate c.args.turns c.args.handler.now (record { request = c.args.request.now; body = c.args.body }) (omega (arith, some)) c.start-task.ensures,
)
