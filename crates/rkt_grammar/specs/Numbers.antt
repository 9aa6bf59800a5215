-- Numbers that a text spells in decimal digits.
use Rattle.std.specs.Prelude.{ℕ, Bool, ◌^◌, ◌&&◌, List, length, nat_lt}
use Rattle.std.specs.Str.{all_ascii_digits}
use Rattle.std.specs.Str.Parse.{digits_value}

-- one or more digits, of a number below 2 ^ k
abbrev pub is_number : ℕ → List ℕ → Bool
is_number k text = all_ascii_digits text && (nat_lt 0 (length text) && nat_lt (digits_value 10 text) (2 ^ k))
