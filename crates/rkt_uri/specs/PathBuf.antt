-- A path of the file system from segments.
use Rattle.std.specs.Prelude.{ℕ, ◌==◌, ◌+◌, ◌-◌, ◌&&◌, ◌||◌, not, List, [], ◌∷◌, ◌++◌, Bool, length, take, codes, Result, Ok, Err, if◌then◌else◌, nat_eq, nat_lt, slice_index, Option, Some, None}
use Rattle.std.specs.Cmp.Lexicographic.{pointwise}
use Rattle.std.specs.List.{list_any, join_with_byte}
use Rattle.rkt_grammar.specs.Bytes.{dot, star, colon, greater_than_sign, less_than_sign, slash}
use Rattle.rkt_uri.specs.declared.path_buf.PathError.{PathError}
use Rattle.rkt_uri.specs.declared.path_buf.PathError.TheVariants.{BadStart, BadChar, BadEnd}

-- an empty segment and a dot stay where the path is
abbrev pub is_here : List ℕ → Bool
is_here segment = length segment == 0 || pointwise nat_eq segment (codes ".")

-- two dots go one up
abbrev pub is_up : List ℕ → Bool
is_up segment = pointwise nat_eq segment (codes "..")

abbrev pub first_of : List ℕ → ℕ
first_of name = slice_index name 0

abbrev pub last_of : List ℕ → ℕ
last_of name = slice_index name (length name - 1)

-- what a name may not be, and the fault that it has then
abbrev pub name_rules : Bool → List ℕ → List (Bool × PathError)
name_rules dots name = (first_of name == dot && not dots, BadStart dot) ∷
    (first_of name == star, BadStart star) ∷
    (last_of name == colon, BadEnd colon) ∷
    (last_of name == greater_than_sign, BadEnd greater_than_sign) ∷
    (last_of name == less_than_sign, BadEnd less_than_sign) ∷
    (list_any (λ b. b == slash) name, BadChar slash) ∷
    []

-- the fault of the first rule that applies
abbrev pub first_that_applies : List (Bool × PathError) → Option PathError
first_that_applies [] = None
first_that_applies (rule ∷ others) = if rule.0 then Some rule.1 else first_that_applies others

-- what is wrong with a name
abbrev pub name_fault : Bool → List ℕ → Option PathError
name_fault dots name = first_that_applies (name_rules dots name)

-- what is wrong with a segment: one that is no name is never wrong
abbrev pub fault_of : Bool → List ℕ → Option PathError
fault_of dots segment = if is_here segment || is_up segment then None else name_fault dots segment

-- the first of two, where there is one
abbrev pub or_else : Option PathError → Option PathError → Option PathError
or_else (Some e) other = Some e
or_else None other = other

-- what is wrong with the first segment that is wrong
abbrev pub fault_in : Bool → List (List ℕ) → Option PathError
fault_in dots [] = None
fault_in dots (segment ∷ segments) = or_else (fault_of dots segment) (fault_in dots segments)

-- these names behind one more segment: two dots take the last one away, and a name comes behind the others
abbrev pub with_segment : List (List ℕ) → List ℕ → List (List ℕ)
with_segment names segment =
    if is_here segment then names else (if is_up segment then take (length names - 1) names else names ++ segment ∷ [])

-- how many two dots among the segments take away a name before all of these
abbrev pub ups_of : List (List ℕ) → ℕ
ups_of [] = 0
ups_of (segment ∷ segments) =
    if is_here segment then ups_of segments else (if is_up segment then ups_of segments + 1 else ups_of segments - 1)

-- the names that segments leave: each one that no two dots behind it take away
abbrev pub names_left : List (List ℕ) → List (List ℕ)
names_left [] = []
names_left (segment ∷ segments) =
    if is_here segment || is_up segment || nat_lt 0 (ups_of segments)
    then names_left segments
    else segment ∷ names_left segments

-- the fault, or else the path
abbrev pub unless : Option PathError → List ℕ → Result (List ℕ) PathError
unless (Some e) path = Err e
unless None path = Ok path

-- the path of these segments, or the first fault
abbrev pub path_of_names : Bool → List (List ℕ) → Result (List ℕ) PathError
path_of_names dots segments = unless (fault_in dots segments) (join_with_byte slash (names_left segments))
