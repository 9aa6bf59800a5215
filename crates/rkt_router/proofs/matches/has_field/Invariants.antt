use Rattle.std.proofs.Common.{◌↔◌}
use Rattle.std.specs.List.{IsAmong}
use Rattle.rkt_uri.specs.Origin.{fields_of}
use Rattle.rkt_router.proofs.matches.has_field.Given as goal

abbrev pub invariant-loop-found : goal.invariant-loop-found
invariant-loop-found g l = IsAmong (fields_of l.request.uri) l.field ↔ IsAmong l.found-iterator l.field
