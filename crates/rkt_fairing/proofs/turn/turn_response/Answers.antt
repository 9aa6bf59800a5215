use Rattle.std.proofs.Common.{arith}
use Rattle.std.proofs.lemmas.Bool.Decides.{nat_tests}
use Rattle.rkt_router.specs.CallLaws.{turn_made}
use Rattle.rkt_fairing.proofs.Turned.{response_poll_grows}
use Rattle.rkt_fairing.proofs.turn.turn_response.Goals as goal

pub poll-step-requires : goal.poll-step-requires
poll-step-requires g c = let was = c.requires.underway in record { begun = (was.1, was.2.gates, c.args.turn, was.2.goes.begun) }

pub returns-clause-gives : goal.returns-clause-gives
returns-clause-gives g c = λ rule before fits making.
    rw c.of.ensures (turn_made g.P.ResponseCallback.calling rule c.args.turns c.args.fairing.now c.args.request.now before (record { response = c.args.response.now; kept = c.args.ctx.now.kept })
    (record { response = c.poll-step.new.response; kept = c.poll-step.new.ctx.kept }) c.args.ctx.now.gate c.args.task.now c.poll-step.new.task c.args.turn _ c.poll-step.result
    (λ h. grind (arith, nat_tests, h), λ h. grind (arith, nat_tests, h)) fits making c.poll-step.ensures.polls)

pub returns-clause-grows : goal.returns-clause-grows
returns-clause-grows g c = λ rule before making.
    response_poll_grows g.P.ResponseCallback.calling g.met.P.ResponseCallback.keeps c.args.fairing.now c.args.request.now rule c.args.turns before (record { response = c.args.response.now; kept = c.args.ctx.now.kept })
    (record { response = c.poll-step.new.response; kept = c.poll-step.new.ctx.kept }) c.args.ctx.now.gate c.args.turn c.args.task.now c.poll-step.new.task c.poll-step.result making c.poll-step.ensures.polls
