use Rattle.std.proofs.Common.{subst}
use Rattle.std.proofs.lemmas.Bool.{true≢false}
use Rattle.rkt_router.specs.Callbacks.{RequestAt}
use Rattle.rkt_adhoc.proofs.Grown.{kept_grows, request_grows_again}
use Rattle.rkt_adhoc.proofs.at_once.AtOnceRequestCallback.poll.Goals as goal

pub returns-in-Ok-clause-polls : goal.returns-in-Ok-clause-polls
returns-in-Ok-clause-polls g c = λ before gates n begun.
    let left : RequestAt _ _ _ = record { request = c.on_request.new.request; body = c.on_request.new.body; kept = c.on_request.new.ctx.kept } in (
      subst (λ from. g.F.ChangesRequest.may c.args.fairing.now from left) (begun.0 c.if-starved.false) c.in-Ok.ensures.changes,
      request_grows_again before _ _ begun.1 c.on_request.ensures.config c.on_request.ensures.managed (kept_grows _ _ c.on_request.ensures.grows),
    )

pub returns-in-Err-clause-polls : goal.returns-in-Err-clause-polls
returns-in-Err-clause-polls g c = λ before gates n begun. (
  λ starved. absurd (true≢false starved),
  request_grows_again before _ _ begun.1 c.on_request.ensures.config c.on_request.ensures.managed (kept_grows _ _ c.on_request.ensures.grows),
  begun.2,
)
