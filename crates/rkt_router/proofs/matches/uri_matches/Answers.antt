use Rattle.std.proofs.Common.{ap, ◌∙◌}
use Rattle.rkt_uri.specs.Origin.{segments_of}
use Rattle.rkt_router.proofs.Decided.{uri_decided}
use Rattle.rkt_router.proofs.matches.uri_matches.Goals as goal

pub returns-then-path_matches : goal.returns-then-path_matches
returns-then-path_matches g c =
    uri_decided _ _ _ _ _ _ _ c.query_matches.result c.segments.ensures (c.segments-2.ensures ∙ ap segments_of c.uri.ensures) c.fields.ensures (c.path_matches.ensures.0 c.if-path_matches.true) c.query_matches.ensures
