-- Where a reader stands in a reference, and what may follow.
use Rattle.std.specs.Prelude.{ℕ, List, Bool, true, if◌then◌else◌, Option, Some, None}
use Rattle.rkt_uri.specs.Reference.{is_reference_byte, IsReference}
use Rattle.rkt_uri.specs.declared.reference.ReferencePlace.{ReferencePlace}

abbrev pub place_after : ReferencePlace → ℕ → Option ReferencePlace
place_after place b = if is_reference_byte b then Some place else None

abbrev pub may_end : ReferencePlace → Bool
may_end place = true

abbrev pub rest_of : ReferencePlace → List ℕ → Type 0
rest_of place text = IsReference text
