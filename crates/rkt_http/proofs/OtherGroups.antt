-- Groups of other names than those that come in.
use Rattle.std.proofs.Common.{◌≡◌, ℕ, cond, Bool, true, false, if◌then◌else◌, List, [], ◌∷◌, refl, sym, ◌∙◌, ap, Option, Some, None}
use Rattle.std.specs.Str.{bytes_eq, str_to_ascii_lowercase}
use Rattle.std.proofs.lemmas.Slice.Eq.{bytes_eq-Decides}
use Rattle.rkt_http.specs.Headers.{Group, group_of, is_named, overwritten, replaced_all, with_group}

same_folded : (name : List ℕ) (g : Group) → is_named name g ≡ true → str_to_ascii_lowercase g.name ≡ str_to_ascii_lowercase name
same_folded name g e = (bytes_eq-Decides (str_to_ascii_lowercase g.name) (str_to_ascii_lowercase name)).0 e

named_as : (name : List ℕ) (g h : Group) → str_to_ascii_lowercase g.name ≡ str_to_ascii_lowercase h.name → is_named name g ≡ is_named name h
named_as name g h e = ap (λ (x : List ℕ). bytes_eq x (str_to_ascii_lowercase name)) e

-- a look-up that finds nothing passes the first group over
not_first : (t : Bool) (g : Group) (rest : Option Group) → cond t (Some g) rest ≡ None → (t ≡ false) × (rest ≡ None)
not_first true g rest e = absurd (cc e)
not_first false g rest e = (refl, e)

-- a look-up by another name finds what it found
group_of-with_group : (change : Group → Group) (made : Group) (name : List ℕ) (groups : List Group) → ((g : Group) → (change g).name ≡ g.name) → is_named name made ≡ false
    → group_of (with_group change made groups) name ≡ group_of groups name
group_of-with_group change made name [] keeps off = ap (λ (t : Bool). cond t (Some made) None) off
group_of-with_group change made name (g ∷ gs) keeps off = by_test (is_named made.name g) refl (group_of-with_group change made name gs keeps off)
  where
    by_test : (t : Bool) → is_named made.name g ≡ t → group_of (with_group change made gs) name ≡ group_of gs name
        → group_of (if t then change g ∷ gs else g ∷ with_group change made gs) name ≡ group_of (g ∷ gs) name
    by_test true test more =
        let before : is_named name g ≡ false = named_as name g made (same_folded made.name g test) ∙ off in
        let after : is_named name (change g) ≡ false = named_as name (change g) g (ap str_to_ascii_lowercase (keeps g)) ∙ before in
        ap (λ (t : Bool). cond t (Some (change g)) (group_of gs name)) after ∙ sym (ap (λ (t : Bool). cond t (Some g) (group_of gs name)) before)
    by_test false test more = ap (λ (o : Option Group). cond (is_named name g) (Some g) o) more

-- what replaces the values of some names leaves the groups of others alone
pub group_of-overwritten : (groups others : List Group) (name : List ℕ) → group_of others name ≡ None → group_of (overwritten groups others) name ≡ group_of groups name
group_of-overwritten groups [] name none = refl
group_of-overwritten groups (g ∷ gs) name none =
    let first = not_first (is_named name g) g (group_of gs name) none in
    group_of-overwritten (replaced_all groups g.name g.values) gs name first.1 ∙ group_of-with_group _ (record { name = g.name; values = g.values }) name groups (λ g. refl) first.0
