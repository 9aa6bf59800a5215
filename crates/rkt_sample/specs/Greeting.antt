-- The age that a text writes, and the greeting of who has it.
use Rattle.std.specs.Char.{digit_value}
use Rattle.std.specs.Fmt.{decimal}
use Rattle.std.specs.List.{list_all}
use Rattle.std.specs.Prelude.{ℕ, ◌&&◌, ◌++◌, Bool, List, Option, Some, None, codes, length, nat_lt, option_and_then, slice_get, if◌then◌else◌}
use Rattle.std.specs.Str.Parse.{digits_value, without_leading_plus}
use Rattle.rkt_request.specs.Seen.{Seen, routed}

abbrev pub are_digits : List ℕ → Bool
are_digits digits = nat_lt 0 (length digits) && list_all (λ digit. nat_lt (digit_value digit) 10) digits

-- the number that digits write, with or without a plus in front, where it is below 256
abbrev pub age_of : List ℕ → Option ℕ
age_of text =
    let digits = without_leading_plus text in
    if are_digits digits && nat_lt (digits_value 10 digits) 256 then Some (digits_value 10 digits) else None

abbrev pub greeting_of : Option (List ℕ) → Option ℕ → Option (List ℕ)
greeting_of (Some name) (Some age) =
    Some (codes "Hello, " ++ (decimal age ++ (codes " year old named " ++ (name ++ codes "!"))))
greeting_of (Some name) None = None
greeting_of None age = None

-- the greeting of the name and the age that stand behind the base of a route
abbrev pub greeting : {V : Type 0} → Seen V → Option (List ℕ)
greeting request = greeting_of (slice_get (routed request) 0) (option_and_then age_of (slice_get (routed request) 1))
