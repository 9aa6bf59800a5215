use Rattle.std.specs.Prelude.{◌++◌, ◌∷◌, []}
use Rattle.rkt_adhoc.proofs.Grown.{kept_grows, request_grows_again}
use Rattle.rkt_fairing.specs.Callbacks.{RequestGrows}
use Rattle.cases_exchange.proofs.Waited.{answers_last}
use Rattle.cases_exchange.proofs.fairing.InTurnsRequestCallbackSiteChanger.poll.Goals as goal

pub returns-clause-polls : goal.returns-clause-polls
returns-clause-polls c = λ before gates n begun.
    let grown = request_grows_again before _ _ begun.0 c.ask.ensures.config c.ask.ensures.managed (kept_grows _ _ c.ask.ensures.grows) in
    answers_last {H = Unit {0}} RequestGrows c.args.changer.now tt before _ (gates ++ c.args.ctx.now.gate ∷ []) n _ c.ask.result c.ask.ensures.last grown begun.1
