use Rattle.std.proofs.Common.{◌≡◌}
use Rattle.rkt_uri.specs.Origin.{field_of}
use Rattle.rkt_uri.proofs.Pieces.{kept_by}
use Rattle.rkt_uri.proofs.origin.push_fields.Given as goal

abbrev pub invariant-loop-piece : goal.invariant-loop-piece
invariant-loop-piece l = l.fields.items ≡ kept_by field_of l.yielded
