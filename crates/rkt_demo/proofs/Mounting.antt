-- The sample's routes and catchers stand as they are below `/`.
use Rattle.std.proofs.Common.{◌≡◌, codes, map, refl}
use Rattle.rkt_fairing.specs.Below.{catcher_below, route_below}
use Rattle.rkt_sample.proofs.Spelled.{base_spelled}
use Rattle.rkt_sample.specs.Mounted.{sample_catchers, sample_routes}
use Rattle.rkt_sample.specs.declared.route.SampleRoute.TheVariants as route
use Rattle.rkt_uri.specs.Origin.{IsOrigin, target_of}
use Rattle.rkt_uri.specs.declared.origin_place.Profile.TheVariants.{Request}

pub routes_below : map (route_below (target_of (codes "/")).path) sample_routes ≡ sample_routes
routes_below = refl

pub catchers_below : map (catcher_below (target_of (codes "/")).path) sample_catchers ≡ sample_catchers
catchers_below = refl

pub root_spelled : IsOrigin Request (codes "/")
root_spelled = base_spelled route.Page
