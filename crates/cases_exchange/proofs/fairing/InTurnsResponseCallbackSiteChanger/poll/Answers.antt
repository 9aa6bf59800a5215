use Rattle.std.specs.Prelude.{◌++◌, ◌∷◌, []}
use Rattle.rkt_adhoc.proofs.Grown.{kept_grows}
use Rattle.rkt_adhoc.specs.Changes.{response_grows}
use Rattle.rkt_request.specs.LentLaws.{grows_again}
use Rattle.cases_exchange.proofs.Waited.{answers_last}
use Rattle.cases_exchange.proofs.fairing.InTurnsResponseCallbackSiteChanger.poll.Goals as goal

pub returns-clause-polls : goal.returns-clause-polls
returns-clause-polls c = λ before gates n begun.
    let grown = grows_again before.kept _ _ begun.0 (kept_grows _ _ c.respond.ensures.grows) in
    answers_last response_grows c.args.changer.now c.args.request.now before _ (gates ++ c.args.ctx.now.gate ∷ []) n _ c.respond.result c.respond.ensures.last grown begun.1
