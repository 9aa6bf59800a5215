-- A header map to which headers are added whose names are not there.
use Rattle.std.proofs.Common.{◌≡◌, ℕ, Bool, true, false, cond, List, [], ◌∷◌, ◌++◌, map, refl, sym, ◌∙◌, ap, subst, append_assoc, append-nil, Option, Some}
use Rattle.std.specs.List.{filter}
use Rattle.std.specs.Option.{is_none, is_some}
use Rattle.std.specs.Str.{str_to_ascii_lowercase}
use Rattle.std.specs.Cmp.Lexicographic.{on_texts_equal}
use Rattle.rkt_http.specs.Headers.{Field, Group, group_of, is_named, added, removed, with_group}
use Rattle.rkt_shield.specs.Shield.{IsByName, is_absent, alone, applied}
use Rattle.rkt_shield.proofs.ByName.{Before}
use Rattle.rkt_shield.proofs.Names.{not_same}

-- where a name is not found, the first group has another, and it is not found behind that
not_first : {X : Type 0} (t : Bool) (x : X) (rest : Option X) → is_none (cond t (Some x) rest) ≡ true → (t ≡ false) × (is_none rest ≡ true)
not_first true x rest e = absurd (cc e)
not_first false x rest e = (refl, e)

-- an absent group is put behind the others
put_behind : (change : Group → Group) (new : Group) (groups : List Group) → is_none (group_of groups new.name) ≡ true → with_group change new groups ≡ groups ++ new ∷ []
put_behind change new [] e = refl
put_behind change new (g ∷ gs) e =
    let first = not_first (is_named new.name g) g (group_of gs new.name) e in
    rw first.0 (ap (λ (groups : List Group). g ∷ groups) (put_behind change new gs first.1))

pub added_behind : (groups : List Group) (field : Field) → is_absent groups field ≡ true → added groups field ≡ groups ++ alone field ∷ []
added_behind groups field e = put_behind (λ group. record group { values = group.values ++ field.value ∷ [] }) (alone field) groups e

-- and taken away again
pub taken_again : (groups : List Group) (field : Field) → is_absent groups field ≡ true → removed (groups ++ alone field ∷ []) field.name ≡ groups
taken_again [] field e = rw ((on_texts_equal str_to_ascii_lowercase).refl field.name) refl
taken_again (g ∷ gs) field e =
    let first = not_first (is_named field.name g) g (group_of gs field.name) e in
    rw first.0 (ap (λ (groups : List Group). g ∷ groups) (taken_again gs field first.1))

-- a group of another name behind the others makes no name present
absent_still : (name : List ℕ) (groups : List Group) (new : Group) → is_named name new ≡ false → is_none (group_of (groups ++ new ∷ []) name) ≡ is_none (group_of groups name)
absent_still name [] new other = rw other refl
absent_still name (g ∷ gs) new other = by_test (is_named name g) (absent_still name gs new other)
  where
    by_test : (t : Bool) → is_none (group_of (gs ++ new ∷ []) name) ≡ is_none (group_of gs name) → is_none (cond t (Some g) (group_of (gs ++ new ∷ []) name)) ≡ is_none (cond t (Some g) (group_of gs name))
    by_test true rest = refl
    by_test false rest = rest

same_absent : (groups : List Group) (field : Field) (fields : List Field) → Before field.name fields → filter (is_absent (groups ++ alone field ∷ [])) fields ≡ filter (is_absent groups) fields
same_absent groups field [] h = refl
same_absent groups field (f ∷ fs) h =
    let now : is_absent (groups ++ alone field ∷ []) f ≡ is_absent groups f = absent_still f.name groups (alone field) (not_same field.name f.name h.0) in
    λ i. cond (now i) (f ∷ same_absent groups field fs h.1 i) (same_absent groups field fs h.1 i)

pub applied_none : (groups : List Group) (fields : List Field) → fields ≡ [] → applied groups fields ≡ groups
applied_none groups fields e = rw e (append-nil groups)

pub applied_there : (groups : List Group) (field : Field) (fields : List Field) → is_absent groups field ≡ false → applied groups fields ≡ applied groups (field ∷ fields)
applied_there groups field fields e = rw e refl

pub applied_absent : (groups : List Group) (field : Field) (fields : List Field) → Before field.name fields → is_absent groups field ≡ true → applied (groups ++ alone field ∷ []) fields ≡ applied groups (field ∷ fields)
applied_absent groups field fields h e =
    ap (λ (more : List Field). (groups ++ alone field ∷ []) ++ map alone more) (same_absent groups field fields h)
    ∙ append_assoc groups (alone field ∷ []) (map alone (filter (is_absent groups) fields))
    ∙ rw e refl

absent : (groups : List Group) (field : Field) (name : List ℕ) → is_some (group_of groups name) ≡ false → name ≡ field.name → is_absent groups field ≡ true
absent groups field name none is = rw (← is, none) refl

-- a header that was added is taken away again
pub taken_back : (groups more same gone : List Group) (field : Field) (name : List ℕ)
    → is_some (group_of groups name) ≡ false → name ≡ field.name → more ≡ added groups field → same ≡ more → gone ≡ removed same name → gone ≡ groups
taken_back groups more same gone field name none is is_more is_same is_gone =
    is_gone
    ∙ (λ i. removed ((is_same ∙ is_more ∙ added_behind groups field (absent groups field name none is)) i) (is i))
    ∙ taken_again groups field (absent groups field name none is)

-- behind a header that was added the others are
pub all_added : (groups more after : List Group) (field : Field) (fields all : List Field) (name : List ℕ)
    → is_some (group_of groups name) ≡ false → name ≡ field.name → all ≡ field ∷ fields → IsByName all → more ≡ added groups field → after ≡ applied more fields → after ≡ applied groups all
all_added groups more after field fields all name none is is_all sorted is_more is_after =
    is_after
    ∙ ap (λ (now : List Group). applied now fields) (is_more ∙ added_behind groups field (absent groups field name none is))
    ∙ applied_absent groups field fields (subst IsByName is_all sorted).0 (absent groups field name none is)
    ∙ ap (applied groups) (sym is_all)
