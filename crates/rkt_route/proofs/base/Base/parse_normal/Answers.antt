use Rattle.std.proofs.Common.{subst, sym}
use Rattle.rkt_uri.specs.Origin.{IsTarget}
use Rattle.rkt_uri.specs.declared.origin_place.Profile.TheVariants.{Request}
use Rattle.rkt_route.proofs.Mounted.{path_alone_fits}
use Rattle.rkt_route.proofs.base.Base.parse_normal.Goals as goal

pub invariant_of-result : goal.invariant_of-result
invariant_of-result c =
    c.in_ok-into_normalized.ensures.spelled Request
    (subst (IsTarget Request) (sym c.clear_query.ensures) (path_alone_fits Request _ c.in_ok-origin.ensures.accepted.fits))
