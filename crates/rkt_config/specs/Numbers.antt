-- Numbers that a text spells in decimal digits.
use Rattle.std.specs.Prelude.{ℕ, Bool, ◌==◌, ◌&&◌, List, Option, Some, None, length, slice_index, nat_lt, if◌then◌else◌}
use Rattle.std.specs.Str.Parse.{digits_value}
use Rattle.rkt_grammar.specs.Bytes.{digit_zero}
use Rattle.rkt_grammar.specs.Numbers.{is_number}

-- the number of one or more digits, below 2 ^ k
abbrev pub number_below : ℕ → List ℕ → Option ℕ
number_below k text = if is_number k text then Some (digits_value 10 text) else None

-- a zero with more behind it
abbrev pub has_leading_zero : List ℕ → Bool
has_leading_zero text = nat_lt 1 (length text) && (slice_index text 0 == digit_zero)

-- the number of digits without a leading zero, below 2 ^ 32
abbrev pub number_without_zeros : List ℕ → Option ℕ
number_without_zeros text = if has_leading_zero text then None else number_below 32 text
