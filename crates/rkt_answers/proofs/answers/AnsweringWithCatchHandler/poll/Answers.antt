use Rattle.std.proofs.Common.{subst, sym, ◌∙◌}
use Rattle.rkt_http.specs.declared.status.Status.{Status}
use Rattle.rkt_answers.proofs.Values.{catch_held, catch_polled, catch_starved}
use Rattle.rkt_answers.proofs.answers.AnsweringWithCatchHandler.poll.Goals as goal

pub returns-in_default-catch-clause-polls : goal.returns-in_default-catch-clause-polls
returns-in_default-catch-clause-polls g c = λ status before gates n begun.
    catch_starved (λ catcher. g.A.CatchesWith.may catcher.0) g.A.Value.Responder.may c.args.self.now (record { status = status; request = c.args.request.now }) before gates n c.args.task.now c.take.new.self
    c.args.ctx.now c.args.ctx.now c.catch.new.ctx begun c.take.ensures.after c.in_default-catch.ensures.grows

pub returns-clause-polls : goal.returns-clause-polls
returns-clause-polls g c = λ status before gates n begun.
    let was = sym c.take.ensures.value ∙ c.in-Some.is in
    let held = catch_held (λ catcher. g.A.CatchesWith.may catcher.0) g.A.Value.Responder.may c.args.self.now (record { status = status; request = c.args.request.now }) before gates n c.args.task.now
    c.take.new.self c.args.ctx.now c.catch.new.ctx c.respond_to.new.ctx c.in-Some.status begun was in
    let may = subst (λ (s : Status). g.A.CatchesWith.may c.args.self.now.0 (record { status = s; request = c.args.request.now }) c.args.ctx.now c.in-Ok.value c.catch.new.ctx) held c.in-Ok.ensures.answers in
    rw c.answer_step.ensures (catch_polled (λ catcher. g.A.CatchesWith.may catcher.0) g.A.Value.Responder.may c.args.self.now (record { status = status; request = c.args.request.now }) before gates n
    c.args.task.now c.take.new.self c.args.ctx.now c.catch.new.ctx c.respond_to.new.ctx c.in-Some.status c.in-Ok.value c.respond_to.result begun was c.take.ensures.after may c.in-Ok.ensures.grows
    c.respond_to.ensures.answers c.respond_to.ensures.grows)
