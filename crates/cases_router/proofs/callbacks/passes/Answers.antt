use Rattle.std.proofs.Common.{[]}
use Rattle.cases_router.proofs.callbacks.passes.Goals as goal

pub poll-step-requires : goal.poll-step-requires
poll-step-requires c = record { begun = (c.local.result, (c.args.ctx.now.kept, [], 0, c.start-task.ensures c.args.ctx.now.kept)) }
