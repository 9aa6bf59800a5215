-- The headers of a shield, by their names, and a header map that they were added to.
use Rattle.std.specs.Prelude.{◌≡◌, ⊤, ℕ, List, [], ◌∷◌, ◌++◌, Bool, true, not, codes, filter, map}
use Rattle.std.specs.List.{AllByRecursion, list_any}
use Rattle.std.specs.Option.{is_none}
use Rattle.std.specs.Ordering.{nat_cmp, is_lt}
use Rattle.std.specs.Cmp.Lexicographic.{slice_cmp}
use Rattle.std.specs.Str.{str_to_ascii_lowercase, str_eq_ignore_ascii_case}
use Rattle.rkt_http.specs.Headers.{Field, Group, group_of}

-- one name comes before another, in any case
abbrev pub comes_before : List ℕ → List ℕ → Bool
comes_before one other = is_lt (slice_cmp nat_cmp (str_to_ascii_lowercase one) (str_to_ascii_lowercase other))

-- each name comes before those behind it, so that no two are the same in any case
abbrev pub IsByName : List Field → Type 0
IsByName [] = ⊤
IsByName (field ∷ fields) = AllByRecursion (λ other. comes_before field.name other.name ≡ true) fields × IsByName fields

-- the header has this name, in any case
abbrev pub has_name : List ℕ → Field → Bool
has_name name field = str_eq_ignore_ascii_case field.name name

-- the headers whose names come before that of the new one, the new one, and those whose names come behind it
abbrev pub enabled : List Field → Field → List Field
enabled fields new =
    filter (λ field. comes_before field.name new.name) fields ++ new ∷ filter (λ field. comes_before new.name field.name) fields

-- the headers of other names
abbrev pub disabled : List Field → List ℕ → List Field
disabled fields name = filter (λ field. not (has_name name field)) fields

-- a header of this name is there
abbrev pub is_enabled : List Field → List ℕ → Bool
is_enabled fields name = list_any (has_name name) fields

-- the headers of a shield where nothing else is said
abbrev pub default_headers : List Field
default_headers =
    record { name = codes "Permissions-Policy"; value = codes "interest-cohort=()" }
    ∷ record { name = codes "X-Content-Type-Options"; value = codes "nosniff" }
    ∷ record { name = codes "X-Frame-Options"; value = codes "SAMEORIGIN" }
    ∷ []

-- there is no group of the header's name
abbrev pub is_absent : List Group → Field → Bool
is_absent groups field = is_none (group_of groups field.name)

-- a group of this header alone
abbrev pub alone : Field → Group
alone field = record { name = field.name; values = field.value ∷ [] }

-- the groups as they were, and behind them a group of its own for each header whose name was not there
abbrev pub applied : List Group → List Field → List Group
applied groups fields = groups ++ map alone (filter (is_absent groups) fields)
