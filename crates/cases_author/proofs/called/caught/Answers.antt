use Rattle.std.proofs.Common.{arith}
use Rattle.rkt_router.specs.CallLaws.{making_begins}
use Rattle.rkt_router.specs.Calls.{any_gate}
use Rattle.cases_author.proofs.called.caught.Goals as goal

pub loop-turn-init : goal.loop-turn-init
loop-turn-init g c = λ some. (
  c.args.ctx.now.kept,
  making_begins g.C.CatchHandler.calling any_gate c.args.turns c.args.catcher.now (record { status = c.args.status; request = c.args.request.now }) (omega (arith, some)) c.start-task.ensures,
)
