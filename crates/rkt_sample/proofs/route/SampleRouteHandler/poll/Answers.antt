use Rattle.std.proofs.Common.{sym, ◌∙◌}
use Rattle.rkt_sample.proofs.Polled.{route_polls}
use Rattle.rkt_sample.proofs.route.SampleRouteHandler.poll.Goals as goal

pub returns-in-Some-clause-polls : goal.returns-in-Some-clause-polls
returns-in-Some-clause-polls g c = λ body before gates n begun.
    route_polls g.S.Source.meaning gates g.R.StopReason.stop_word c.args.self.now c.args.request.now body c.in-Some.body before c.args.ctx.now c.step.new.ctx n c.args.task.now c.take.new.self c.step.result
    (sym c.take.ensures.value ∙ c.in-Some.is) c.take.ensures.after begun c.step.ensures
