-- Header fields, and a header map as the list of its groups.
use Rattle.std.specs.Prelude.{ℕ, zero, suc, List, [], ◌∷◌, ◌++◌, Bool, Option, Some, None, if◌then◌else◌, find, fold, map, flat_map, slice_get}
use Rattle.std.specs.Str.{str_eq_ignore_ascii_case}

-- a header field
pub record Field : Type 0 where
  pub name : List ℕ
  pub value : List ℕ

-- the values under one name, which is spelled as it came first
pub record Group : Type 0 where
  pub name : List ℕ
  pub values : List (List ℕ)

-- the group has this name, in any case
abbrev pub is_named : List ℕ → Group → Bool
is_named name group = str_eq_ignore_ascii_case group.name name

-- the group of this name, if there is one
abbrev pub group_of : List Group → List ℕ → Option Group
group_of groups name = find (is_named name) groups

-- the values of a group, or none
abbrev pub values_in : Option Group → List (List ℕ)
values_in None = []
values_in (Some group) = group.values

-- the values under this name, in order
abbrev pub values_of : List Group → List ℕ → List (List ℕ)
values_of groups name = values_in (group_of groups name)

-- the first value under this name
abbrev pub first_value : List Group → List ℕ → Option (List ℕ)
first_value groups name = slice_get (values_of groups name) 0

-- with the group of this name changed, or else this new group behind the others
abbrev pub with_group : (Group → Group) → Group → List Group → List Group
with_group change new [] = new ∷ []
with_group change new (group ∷ groups) =
    if is_named new.name group then change group ∷ groups else group ∷ with_group change new groups

-- with the group at this place changed
abbrev pub changed_at : ℕ → (Group → Group) → List Group → List Group
changed_at n change [] = []
changed_at zero change (group ∷ groups) = change group ∷ groups
changed_at (suc n) change (group ∷ groups) = group ∷ changed_at n change groups

-- with these values behind those of their name
abbrev pub added_all : List Group → List ℕ → List (List ℕ) → List Group
added_all groups name values =
    with_group (λ group. record group { values = group.values ++ values }) (record { name = name; values = values }) groups

-- with these values in place of those of their name
abbrev pub replaced_all : List Group → List ℕ → List (List ℕ) → List Group
replaced_all groups name values =
    with_group (λ group. record group { values = values }) (record { name = name; values = values }) groups

-- with the values of each of these groups behind those of its name
abbrev pub appended : List Group → List Group → List Group
appended groups others = fold (λ all group. added_all all group.name group.values) groups others

-- with the values of each of these groups in place of those of its name
abbrev pub overwritten : List Group → List Group → List Group
overwritten groups others = fold (λ all group. replaced_all all group.name group.values) groups others

-- with this field's value behind those of its name
abbrev pub added : List Group → Field → List Group
added groups field = added_all groups field.name (field.value ∷ [])

-- with this field's value alone under its name
abbrev pub replaced : List Group → Field → List Group
replaced groups field = replaced_all groups field.name (field.value ∷ [])

-- without the group of this name
abbrev pub removed : List Group → List ℕ → List Group
removed [] name = []
removed (group ∷ groups) name = if is_named name group then groups else group ∷ removed groups name

-- the fields of a group, in order
abbrev pub group_fields : Group → List Field
group_fields group = map (λ value. record { name = group.name; value = value }) group.values

-- all fields: group by group, and in each value by value
abbrev pub fields_of : List Group → List Field
fields_of groups = flat_map group_fields groups
