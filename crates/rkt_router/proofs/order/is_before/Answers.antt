use Rattle.std.proofs.Common.{refl}
use Rattle.std.proofs.lemmas.Bool.{false≢true}
use Rattle.std.proofs.lemmas.Option.{slice_get_past, slice_get_read}
use Rattle.rkt_router.proofs.Orders.{before_decided, before_none}
use Rattle.rkt_router.proofs.order.is_before.Goals as goal

pub returns-in-Some-get : goal.returns-in-Some-get
returns-in-Some-get g c =
    before_decided c.args.routes.now c.args.one c.args.other c.in-Some.a.now c.in-Some-get.b.now c.goes_before.result
    (slice_get_read _ _ _ _ refl c.in-Some.ensures.lookup.3.0 c.in-Some.ensures.lookup.1) (slice_get_read _ _ _ _ refl c.in-Some-get.ensures.lookup.3.0 c.in-Some-get.ensures.lookup.1)
    c.goes_before.ensures

pub returns-in-None : goal.returns-in-None
returns-in-None g c = (
  λ e. absurd (false≢true e),
  λ h. absurd (before_none c.args.routes.now c.args.one c.args.other (slice_get_past c.args.routes.now c.args.other c.in-None.ensures.lookup.3) h),
)
