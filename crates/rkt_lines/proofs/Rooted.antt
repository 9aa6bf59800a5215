-- The root is an origin.
use Rattle.std.proofs.Common.{[], refl}
use Rattle.rkt_route.specs.RouteUri.{root}
use Rattle.rkt_uri.specs.Origin.{IsOrigin}
use Rattle.rkt_uri.specs.declared.origin_place.Profile.TheVariants.{Request}

pub root_is_origin : IsOrigin Request root.path
root_is_origin = (root, record { fits = record { begins = ([], refl); path = (refl, tt); query = tt }; spelled = refl })
