use Rattle.std.proofs.Common.{subst}
use Rattle.std.proofs.lemmas.Bool.{true≢false}
use Rattle.rkt_request.specs.LentLaws.{grows_again}
use Rattle.rkt_fairing.specs.Callbacks.{ResponseAt}
use Rattle.rkt_adhoc.proofs.Grown.{kept_grows}
use Rattle.rkt_adhoc.proofs.at_once.AtOnceResponseCallback.poll.Goals as goal

pub returns-in-Ok-clause-polls : goal.returns-in-Ok-clause-polls
returns-in-Ok-clause-polls g c = λ before gates n begun.
    let left : ResponseAt _ _ = record { response = c.on_response.new.response; kept = c.on_response.new.ctx.kept } in (
      subst (λ from. g.F.ChangesResponse.may c.args.fairing.now c.args.request.now from left) (begun.0 c.if-starved.false) c.in-Ok.ensures.changes,
      grows_again before.kept _ _ begun.1 (kept_grows _ _ c.on_response.ensures.grows),
    )

pub returns-in-Err-clause-polls : goal.returns-in-Err-clause-polls
returns-in-Err-clause-polls g c = λ before gates n begun. (
  λ starved. absurd (true≢false starved),
  grows_again before.kept _ _ begun.1 (kept_grows _ _ c.on_response.ensures.grows),
  begun.2,
)
