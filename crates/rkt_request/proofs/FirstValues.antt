-- The first value under a name, when a field is added or put in place of others.
use Rattle.std.proofs.Common.{◌≡◌, ℕ, Bool, true, false, cond, if◌then◌else◌, List, [], ◌∷◌, ◌++◌, Option, Some, None, find, refl, sym, ap, ◌∙◌, subst}
use Rattle.std.specs.Prelude.{slice_get, is_some, not, option_map}
use Rattle.std.specs.Bool.{MatchBool}
use Rattle.std.specs.Str.{bytes_eq, str_eq_ignore_ascii_case, str_to_ascii_lowercase}
use Rattle.std.specs.Cmp.Lexicographic.{bytes_decides}
use Rattle.rkt_http.specs.Headers.{Field, Group, added, is_named, replaced, values_in, values_of, with_group}
use Rattle.rkt_request.specs.Seen.{MaybeReadAs, ReadAs, first_value}

-- a group has both of two names that are the same in any case, or neither
same_test : (new name : List ℕ) → str_eq_ignore_ascii_case new name ≡ true → (g : Group) → is_named new g ≡ is_named name g
same_test new name same g = ap (bytes_eq (str_to_ascii_lowercase g.name)) ((bytes_decides _ _).0 same)

-- and not both of two that differ
other_test : (new name : List ℕ) → str_eq_ignore_ascii_case new name ≡ false → (g : Group) → is_named new g ≡ true → is_named name g ≡ false
other_test new name other g is = ap (λ low. bytes_eq low (str_to_ascii_lowercase name)) ((bytes_decides _ _).0 is) ∙ other

-- a name that is one of two that differ is not the other
pub other_name : (name a b : List ℕ) → str_eq_ignore_ascii_case name a ≡ true → str_eq_ignore_ascii_case a b ≡ false → str_eq_ignore_ascii_case name b ≡ false
other_name name a b same differs = ap (λ low. bytes_eq low (str_to_ascii_lowercase b)) ((bytes_decides _ _).0 same) ∙ differs

passed_over : (u : Bool) (g : Group) (x y : Option Group) → values_in x ≡ values_in y → values_in (cond u (Some g) x) ≡ values_in (cond u (Some g) y)
passed_over true g x y more = refl
passed_over false g x y more = more

module _ (change : List (List ℕ) → List (List ℕ)) (new : Group) (name : List ℕ) where
  abbrev changed : Group → Group
  changed g = record g { values = change g.values }

  values_of-same : change [] ≡ new.values → str_eq_ignore_ascii_case new.name name ≡ true → (groups : List Group)
      → values_of (with_group changed new groups) name ≡ change (values_of groups name)
  values_of-same fresh same [] = ap (λ t. values_in (cond t (Some new) None)) same ∙ sym fresh
  values_of-same fresh same (g ∷ gs) = by_test (is_named new.name g) refl (values_of-same fresh same gs)
    where
      by_test : (t : Bool) → is_named new.name g ≡ t → values_of (with_group changed new gs) name ≡ change (values_of gs name)
          → values_of (if t then changed g ∷ gs else g ∷ with_group changed new gs) name ≡ change (values_of (g ∷ gs) name)
      by_test true test more =
          let is : is_named name g ≡ true = sym (same_test new.name name same g) ∙ test in
          ap (λ t. values_in (cond t (Some (changed g)) (find (is_named name) gs))) is ∙ sym (ap (λ t. change (values_in (cond t (Some g) (find (is_named name) gs)))) is)
      by_test false test more =
          let is : is_named name g ≡ false = sym (same_test new.name name same g) ∙ test in
          ap (λ t. values_in (cond t (Some g) (find (is_named name) (with_group changed new gs)))) is ∙ more
          ∙ sym (ap (λ t. change (values_in (cond t (Some g) (find (is_named name) gs)))) is)

  values_of-other : str_eq_ignore_ascii_case new.name name ≡ false → (groups : List Group) → values_of (with_group changed new groups) name ≡ values_of groups name
  values_of-other other [] = ap (λ t. values_in (cond t (Some new) None)) other
  values_of-other other (g ∷ gs) = by_test (is_named new.name g) refl (values_of-other other gs)
    where
      by_test : (t : Bool) → is_named new.name g ≡ t → values_of (with_group changed new gs) name ≡ values_of gs name
          → values_of (if t then changed g ∷ gs else g ∷ with_group changed new gs) name ≡ values_of (g ∷ gs) name
      by_test true test more =
          let is : is_named name g ≡ false = other_test new.name name other g test in
          ap (λ t. values_in (cond t (Some (changed g)) (find (is_named name) gs))) is ∙ sym (ap (λ t. values_in (cond t (Some g) (find (is_named name) gs))) is)
      by_test false test more = passed_over (is_named name g) g _ _ more

behind_none : (values : List (List ℕ)) (value : List ℕ) → slice_get values 0 ≡ None → slice_get (values ++ value ∷ []) 0 ≡ Some value
behind_none [] value none = refl
behind_none (first ∷ values) value none = absurd (cc none)

behind_first : (values : List (List ℕ)) (value first : List ℕ) → slice_get values 0 ≡ Some first → slice_get (values ++ value ∷ []) 0 ≡ slice_get values 0
behind_first [] value first some = absurd (cc some)
behind_first (v ∷ values) value first some = refl

module _ (headers : List Group) (field : Field) (name : List ℕ) where
  abbrev one_more : List (List ℕ) → List (List ℕ)
  one_more values = values ++ field.value ∷ []

  abbrev alone : List (List ℕ) → List (List ℕ)
  alone _ = field.value ∷ []

  abbrev new_group : Group
  new_group = record { name = field.name; values = field.value ∷ [] }

  pub first_value-added_other : str_eq_ignore_ascii_case field.name name ≡ false → first_value (added headers field) name ≡ first_value headers name
  first_value-added_other other = ap (λ values. slice_get values 0) (values_of-other one_more new_group name other headers)

  pub first_value-replaced_other : str_eq_ignore_ascii_case field.name name ≡ false → first_value (replaced headers field) name ≡ first_value headers name
  first_value-replaced_other other = ap (λ values. slice_get values 0) (values_of-other alone new_group name other headers)

  pub first_value-replaced : str_eq_ignore_ascii_case field.name name ≡ true → first_value (replaced headers field) name ≡ Some field.value
  first_value-replaced same = ap (λ values. slice_get values 0) (values_of-same alone new_group name refl same headers)

  -- a field becomes the first of its name where there was none
  pub first_value-added : {A : Type 0} (view : A → List ℕ) → str_eq_ignore_ascii_case field.name name ≡ true → (found : Option A) (none : Bool)
      → option_map view found ≡ first_value headers name → is_some found ≡ not none
      → MatchBool none (first_value (added headers field) name ≡ Some field.value) (first_value (added headers field) name ≡ first_value headers name)
  first_value-added view same None true is tested =
      ap (λ values. slice_get values 0) (values_of-same one_more new_group name refl same headers) ∙ behind_none (values_of headers name) field.value (sym is)
  first_value-added view same None false is tested = absurd (cc tested)
  first_value-added view same (Some first) true is tested = absurd (cc tested)
  first_value-added view same (Some first) false is tested =
      ap (λ values. slice_get values 0) (values_of-same one_more new_group name refl same headers) ∙ behind_first (values_of headers name) field.value (view first) (sym is)

module _ {X : Type 0} (Spells : List ℕ → X → Type 0) (name : List ℕ) where
  -- what a text spells is read of the headers whose first value it is
  pub read_anew : (headers : List Group) (text : List ℕ) (found : Option X) → first_value headers name ≡ Some text → ReadAs Spells text found
      → MaybeReadAs Spells (first_value headers name) found
  read_anew headers text found first read = subst (λ value. MaybeReadAs Spells value found) (sym first) read

  -- where the first value stays, so does what is read
  pub read_before : (before after : List Group) (found : Option X) → first_value after name ≡ first_value before name → MaybeReadAs Spells (first_value before name) found
      → MaybeReadAs Spells (first_value after name) found
  read_before before after found same read = subst (λ value. MaybeReadAs Spells value found) (sym same) read
