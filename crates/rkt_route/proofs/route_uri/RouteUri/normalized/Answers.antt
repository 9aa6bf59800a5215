use Rattle.rkt_uri.specs.declared.origin_place.Profile.TheVariants.{Request, Route}
use Rattle.rkt_route.proofs.route_uri.RouteUri.normalized.Goals as goal

pub of_parts-requires-clause-base_fits : goal.of_parts-requires-clause-base_fits
of_parts-requires-clause-base_fits c = c.in-Ok.ensures.spelled Request c.requires.base_fits

pub of_parts-requires-clause-uri_fits : goal.of_parts-requires-clause-uri_fits
of_parts-requires-clause-uri_fits c = c.in-Ok-into_normalized.ensures.spelled Route c.requires.uri_fits
