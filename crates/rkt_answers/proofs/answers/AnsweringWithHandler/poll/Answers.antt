use Rattle.std.proofs.Common.{sym, ◌∙◌}
use Rattle.rkt_request.specs.LentLaws.{may_grow_again}
use Rattle.rkt_answers.proofs.Values.{answer_done, answer_starved}
use Rattle.rkt_answers.proofs.answers.AnsweringWithHandler.poll.Goals as goal

pub returns-in_default-answer-clause-polls : goal.returns-in_default-answer-clause-polls
returns-in_default-answer-clause-polls g c = λ body before gates n begun.
    answer_starved (λ handler. g.A.AnswersWith.may handler.0) g.A.Value.Responder.may c.args.self.now (record { request = c.args.request.now; body = body })
    before gates n c.args.task.now c.take.new.self c.args.ctx.now c.args.ctx.now c.answer.new.ctx begun c.take.ensures.after c.in_default-answer.ensures.grows

pub returns-in-Ok-from-clause-polls : goal.returns-in-Ok-from-clause-polls
returns-in-Ok-from-clause-polls g c = λ body before gates n begun.
    answer_done (λ handler. g.A.AnswersWith.may handler.0) g.A.Value.Responder.may c.args.self.now (record { request = c.args.request.now; body = body })
    before gates n c.args.task.now c.take.new.self c.args.ctx.now c.answer.new.ctx c.from.new.ctx c.in-Ok.value c.in-Ok-from.reply begun (sym c.take.ensures.value ∙ c.in-Some.is) c.in-Ok.ensures.answers
    c.in-Ok.ensures.grows c.in-Ok-from.ensures.answers c.in-Ok-from.ensures.grows

pub returns-in-Err-clause-polls : goal.returns-in-Err-clause-polls
returns-in-Err-clause-polls g c = λ body before gates n begun.
    answer_starved (λ handler. g.A.AnswersWith.may handler.0) g.A.Value.Responder.may c.args.self.now (record { request = c.args.request.now; body = body })
    before gates n c.args.task.now c.take.new.self c.args.ctx.now c.answer.new.ctx c.from.new.ctx begun c.take.ensures.after
    (may_grow_again c.args.ctx.now c.answer.new.ctx c.from.new.ctx c.in-Ok.ensures.grows c.in-Err.ensures.grows)
