use Rattle.std.proofs.Common.{arith}
use Rattle.std.proofs.lemmas.Bool.Decides.{nat_tests}
use Rattle.rkt_router.specs.CallLaws.{turn_made}
use Rattle.rkt_router.proofs.Grown.{poll_grows}
use Rattle.rkt_router.proofs.turn.turn_catch.Goals as goal

pub poll-step-requires : goal.poll-step-requires
poll-step-requires g c = let was = c.requires.underway in record { begun = (was.1, (was.2, was.3.gates, c.args.turn, was.3.goes.begun)) }

pub returns-clause-gives : goal.returns-clause-gives
returns-clause-gives g c = λ rule status before fits making.
    rw c.of.ensures (turn_made g.C.CatchHandler.calling rule c.args.turns c.args.catcher.now (record { status = status; request = c.args.request.now }) before c.args.ctx.now.kept c.poll-step.new.ctx.kept
    c.args.ctx.now.gate c.args.task.now c.poll-step.new.task c.args.turn _ c.poll-step.result (λ h. grind (arith, nat_tests, h), λ h. grind (arith, nat_tests, h)) fits making
    (c.poll-step.ensures.polls status))

pub returns-clause-grows : goal.returns-clause-grows
returns-clause-grows g c = λ rule status before making.
    poll_grows g.C.CatchHandler.calling g.met.C.CatchHandler.keeps c.args.catcher.now (record { status = status; request = c.args.request.now }) rule c.args.turns before c.args.ctx.now.kept c.poll-step.new.ctx.kept
    c.args.ctx.now.gate c.args.turn c.args.task.now c.poll-step.new.task c.poll-step.result making (c.poll-step.ensures.polls status)
