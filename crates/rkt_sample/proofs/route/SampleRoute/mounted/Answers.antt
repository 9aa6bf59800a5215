use Rattle.std.proofs.Common.{subst, sym}
use Rattle.rkt_uri.specs.Origin.{IsOrigin}
use Rattle.rkt_uri.specs.declared.origin_place.Profile.TheVariants.{Request}
use Rattle.rkt_sample.proofs.Spelled.{base_spelled}
use Rattle.rkt_sample.proofs.route.SampleRoute.mounted.Goals as goal

pub route_below-requires : goal.route_below-requires
route_below-requires c = subst (IsOrigin Request) (sym c.base.ensures) (base_spelled c.args.self)
