use Rattle.std.proofs.Common.{inl, refl, sym, ◌≡◌, ◌∙◌}
use Rattle.rkt_answers.proofs.Values.{answer_done, answer_starved}
use Rattle.rkt_answers.proofs.answers.AnsweringHandler.poll.Goals as goal

pub returns-in-Ok-from-clause-polls : goal.returns-in-Ok-from-clause-polls
returns-in-Ok-from-clause-polls g c = λ body before gates n begun.
    answer_done (λ handler request before value after. g.A.Answers.may handler.0 request value × (after ≡ before)) g.A.Value.Responder.may c.args.self.now (record { request = c.args.request.now; body = body })
    before gates n c.args.task.now c.take.new.self c.args.ctx.now c.args.ctx.now c.from.new.ctx c.in-Ok.value c.in-Ok-from.reply begun (sym c.take.ensures.value ∙ c.in-Some.is) (c.in-Ok.ensures, refl) (inl refl)
    c.in-Ok-from.ensures.answers c.in-Ok-from.ensures.grows

pub returns-in-Err-clause-polls : goal.returns-in-Err-clause-polls
returns-in-Err-clause-polls g c = λ body before gates n begun.
    answer_starved (λ handler request before value after. g.A.Answers.may handler.0 request value × (after ≡ before)) g.A.Value.Responder.may c.args.self.now (record { request = c.args.request.now; body = body })
    before gates n c.args.task.now c.take.new.self c.args.ctx.now c.args.ctx.now c.from.new.ctx begun c.take.ensures.after c.in-Err.ensures.grows
