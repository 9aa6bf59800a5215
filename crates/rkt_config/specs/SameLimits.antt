-- When two limits are the same: they have the same names, in lower case, with the same limits.
use Rattle.std.specs.Prelude.{ℕ, Bool, ◌&&◌, List, nat_eq}
use Rattle.std.specs.Cmp.Lexicographic.{pointwise}
use Rattle.rkt_data.specs.declared.data_stream.ByteUnit.{ByteUnit}

abbrev pub same_limits : List (List ℕ × ByteUnit) → List (List ℕ × ByteUnit) → Bool
same_limits = pointwise (λ a b. pointwise nat_eq a.0 b.0 && nat_eq a.1.0 b.1.0)
