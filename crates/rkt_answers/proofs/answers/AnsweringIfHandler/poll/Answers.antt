use Rattle.std.proofs.Common.{sym, ◌∙◌}
use Rattle.rkt_answers.proofs.Values.{attempt_polled, attempt_starved, gate_kept}
use Rattle.rkt_answers.proofs.answers.AnsweringIfHandler.poll.Goals as goal

pub returns-in-Ok-clause-gate : goal.returns-in-Ok-clause-gate
returns-in-Ok-clause-gate g c =
    gate_kept c.answer.new.ctx c.outcome_step.new.ctx c.outcome_step.ensures.grows ∙ gate_kept c.args.ctx.now c.answer.new.ctx c.in-Ok.ensures.grows

pub returns-in-Ok-clause-polls : goal.returns-in-Ok-clause-polls
returns-in-Ok-clause-polls g c = λ body before gates n begun.
    attempt_polled (λ handler. g.A.AnswersIf.may handler.0) g.A.Value.Responder.may c.args.self.now (record { request = c.args.request.now; body = body }) before gates n c.args.task.now c.take.new.self
    c.args.ctx.now c.answer.new.ctx c.outcome_step.new.ctx c.in-Some.body c.in-Ok.outcome c.outcome_step.result begun (sym c.take.ensures.value ∙ c.in-Some.is) c.take.ensures.after c.in-Ok.ensures.answers
    c.in-Ok.ensures.grows c.outcome_step.ensures.steps c.outcome_step.ensures.grows

pub returns-in-Err-clause-polls : goal.returns-in-Err-clause-polls
returns-in-Err-clause-polls g c = λ body before gates n begun.
    attempt_starved (λ handler. g.A.AnswersIf.may handler.0) g.A.Value.Responder.may c.args.self.now (record { request = c.args.request.now; body = body }) before gates n c.args.task.now c.take.new.self
    c.args.ctx.now c.args.ctx.now c.answer.new.ctx begun c.take.ensures.after c.in-Err.ensures.grows
