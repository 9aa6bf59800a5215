use Rattle.std.specs.List.{AllWithin, IsAmong}
use Rattle.rkt_uri.specs.Origin.{fields_of}
use Rattle.rkt_router.proofs.matches.query_matches.Given as goal

abbrev pub invariant-loop-field : goal.invariant-loop-field
invariant-loop-field g l = AllWithin (IsAmong (fields_of l.request.uri)) l.fields 0 l.field-index
