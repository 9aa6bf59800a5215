use Rattle.std.proofs.Common.{subst, sym, ◌∙◌, ◌++◌, ◌∷◌, []}
use Rattle.rkt_source.specs.declared.source.Gate.{Gate}
use Rattle.rkt_answers.proofs.Values.{data_polled, reading_begun}
use Rattle.rkt_answers.proofs.answers_data.AnsweringDataHandler.poll.Goals as goal

pub poll_data-requires : goal.poll_data-requires
poll_data-requires g c =
    let was = c.requires.begun in
    let started = reading_begun g.A.Data.FromData.guarding (record { request = c.args.request.now; body = was.0 }) was.1.0 c.args.ctx.now.kept was.1.1 was.1.2 c.args.task.now.left c.args.task.now.reading c.in-Some.reading
    was.1.3 (sym c.take.ensures.value ∙ c.in-Some.is) in
    (c.args.request.now, was.0, was.1.1, was.1.2, started.0)

pub returns-in-Ready-Ok-clause-polls : goal.returns-in-Ready-Ok-clause-polls
returns-in-Ready-Ok-clause-polls g c = λ body before gates n begun.
    let was = sym c.take.ensures.value ∙ c.in-Some.is in
    let started = reading_begun g.A.Data.FromData.guarding (record { request = c.args.request.now; body = body }) before c.args.ctx.now.kept gates n c.args.task.now.left c.args.task.now.reading c.in-Some.reading
    begun was in
    let may = subst (λ (gate : Gate). g.A.Data.FromData.guarding.may c.args.request.now body (gates ++ gate ∷ []) c.in-Ready-Ok.outcome) c.gate.ensures
    (rw c.in-Ready-Ok.field-0-is at (c.in-Ready-Ok.ensures c.args.request.now body gates n started.0)) in
    data_polled g.A.Data.FromData.guarding (λ handler. g.A.AnswersData.may handler.0) g.A.Value.Responder.may c.args.self.now (record { request = c.args.request.now; body = body }) before gates n
    c.args.task.now (record { reading = c.take.new.self; left = c.args.task.now.left }) c.args.ctx.now c.data_step.new.ctx c.in-Some.reading c.in-Ready-Ok.outcome c.data_step.result begun was
    c.take.ensures.after may c.data_step.ensures.steps c.data_step.ensures.grows
