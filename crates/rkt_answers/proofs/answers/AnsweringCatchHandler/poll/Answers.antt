use Rattle.std.proofs.Common.{inl, refl, subst, sym, ◌≡◌, ◌∙◌}
use Rattle.rkt_http.specs.declared.status.Status.{Status}
use Rattle.rkt_answers.proofs.Values.{catch_held, catch_polled}
use Rattle.rkt_answers.proofs.answers.AnsweringCatchHandler.poll.Goals as goal

pub returns-clause-polls : goal.returns-clause-polls
returns-clause-polls g c = λ status before gates n begun.
    let was = sym c.take.ensures.value ∙ c.in-Some.is in
    let held = catch_held (λ catcher refused before value after. g.A.Catches.may catcher.0 refused value × (after ≡ before)) g.A.Value.Responder.may c.args.self.now
    (record { status = status; request = c.args.request.now }) before gates n c.args.task.now c.take.new.self c.args.ctx.now c.args.ctx.now c.respond_to.new.ctx c.in-Some.status begun was in
    let may = subst (λ (s : Status). g.A.Catches.may c.args.self.now.0 (record { status = s; request = c.args.request.now }) c.in-Ok.value) held c.in-Ok.ensures in
    rw c.answer_step.ensures (catch_polled (λ catcher refused before value after. g.A.Catches.may catcher.0 refused value × (after ≡ before)) g.A.Value.Responder.may c.args.self.now
    (record { status = status; request = c.args.request.now }) before gates n c.args.task.now c.take.new.self c.args.ctx.now c.args.ctx.now c.respond_to.new.ctx c.in-Some.status c.in-Ok.value
    c.respond_to.result begun was c.take.ensures.after (may, refl) (inl refl) c.respond_to.ensures.answers c.respond_to.ensures.grows)
