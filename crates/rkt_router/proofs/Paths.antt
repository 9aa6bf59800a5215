-- How the segments of a route are walked beside the names of a path.
use Rattle.std.proofs.Common.{◌≡◌, ◌↔◌, ◌+◌, ℕ, zero, suc, List, [], ◌∷◌, Bool, true, false, not, Some, None, drop, add-one, sym, ◌∙◌, ap, subst, cond}
use Rattle.std.specs.Prelude.{slice_get}
use Rattle.std.specs.List.{take_while}
use Rattle.std.proofs.lemmas.List.Sums.{take_while-cons}
use Rattle.rkt_router.specs.Tries.{Agrees}
use Rattle.rkt_route.specs.declared.segment.Segment.{Segment}

-- the names agree with the segments before any trailing one
abbrev pub AgreesBefore : List Segment → List (List ℕ) → Type 0
AgreesBefore segments names = Agrees (take_while (λ s. not s.trailing) segments) names

no_names : (segments : List Segment) → Agrees segments []
no_names [] = tt
no_names (s ∷ segments) = tt

none_before : (s : Segment) (segments : List Segment) → s.trailing ≡ true → take_while (λ s. not s.trailing) (s ∷ segments) ≡ []
none_before s segments e =
    take_while-cons (λ s. not s.trailing) s segments ∙ ap (λ (t : Bool). cond (not t) (s ∷ take_while (λ s. not s.trailing) segments) []) e

one_before : (s : Segment) (segments : List Segment) → s.trailing ≡ false → take_while (λ s. not s.trailing) (s ∷ segments) ≡ s ∷ take_while (λ s. not s.trailing) segments
one_before s segments e =
    take_while-cons (λ s. not s.trailing) s segments ∙ ap (λ (t : Bool). cond (not t) (s ∷ take_while (λ s. not s.trailing) segments) []) e

-- a trailing segment ends the walk
pub trailing_ends : (segments : List Segment) (names : List (List ℕ)) (at : ℕ) (segment : Segment) → slice_get segments at ≡ Some segment → segment.trailing ≡ true
    → AgreesBefore (drop at segments) (drop at names)
trailing_ends [] names at segment is trailing = absurd (cc is)
trailing_ends (s ∷ segments) names zero segment is trailing =
    let same : s ≡ segment = cc is in
    let ends : s.trailing ≡ true = ap (λ (s : Segment). s.trailing) same ∙ trailing in
    subst (λ (xs : List Segment). Agrees xs names) (sym (none_before s segments ends)) tt
trailing_ends (s ∷ segments) [] (suc at) segment is trailing = no_names (take_while (λ s. not s.trailing) (drop at segments))
trailing_ends (s ∷ segments) (name ∷ names) (suc at) segment is trailing = trailing_ends segments names at segment is trailing

-- so does the end of the names
pub names_end : (segments : List Segment) (names : List (List ℕ)) (at : ℕ) → slice_get names at ≡ None → AgreesBefore (drop at segments) (drop at names)
names_end segments [] zero none = no_names (take_while (λ s. not s.trailing) segments)
names_end segments [] (suc at) none = no_names (take_while (λ s. not s.trailing) (drop (suc at) segments))
names_end segments (name ∷ names) zero none = absurd (cc none)
names_end [] (name ∷ names) (suc at) none = tt
names_end (s ∷ segments) (name ∷ names) (suc at) none = names_end segments names at none

-- any other segment has to be the name in its place, and so have those behind it
walks : (segments : List Segment) (names : List (List ℕ)) (at : ℕ) (segment : Segment) (name : List ℕ) → slice_get segments at ≡ Some segment → segment.trailing ≡ false
    → slice_get names at ≡ Some name
    → AgreesBefore (drop at segments) (drop at names) ↔ ((segment.dynamic ≡ false → segment.value ≡ name) × AgreesBefore (drop (suc at) segments) (drop (suc at) names))
walks [] names at segment name is goes_on name_is = absurd (cc is)
walks (s ∷ segments) [] at segment name is goes_on name_is = absurd (cc name_is)
walks (s ∷ segments) (n ∷ names) zero segment name is goes_on name_is =
    let same : segment ≡ s = cc is in
    let same_name : name ≡ n = cc name_is in
    let Here : Segment → List ℕ → Type 0 = λ x y. x.dynamic ≡ false → x.value ≡ y in
    let on : s.trailing ≡ false = ap (λ (s : Segment). s.trailing) (sym same) ∙ goes_on in
    let first = one_before s segments on in (
      λ h. let h' = subst (λ (xs : List Segment). Agrees xs (n ∷ names)) first h in (subst (λ (x : Segment). Here x name) (sym same) (subst (Here s) (sym same_name) h'.0), h'.1),
      λ h. subst (λ (xs : List Segment). Agrees xs (n ∷ names)) (sym first) (subst (λ (x : Segment). Here x n) same (subst (Here segment) same_name h.0), h.1),
    )
walks (s ∷ segments) (n ∷ names) (suc at) segment name is goes_on name_is = walks segments names at segment name is goes_on name_is

pub walks_on : (segments : List Segment) (names : List (List ℕ)) (at : ℕ) (segment : Segment) (name : List ℕ) → slice_get segments at ≡ Some segment → segment.trailing ≡ false
    → slice_get names at ≡ Some name
    → AgreesBefore (drop at segments) (drop at names) ↔ ((segment.dynamic ≡ false → segment.value ≡ name) × AgreesBefore (drop (at + 1) segments) (drop (at + 1) names))
walks_on segments names at segment name is goes_on name_is = rw add-one (walks segments names at segment name is goes_on name_is)

-- the walk, where a name is tested
pub walk_fails : (segments : List Segment) (names : List (List ℕ)) (at : ℕ) (segment : Segment) (name : List ℕ) (whole : Type 0) → slice_get segments at ≡ Some segment → segment.trailing ≡ false
    → slice_get names at ≡ Some name → ¬ (segment.dynamic ≡ false → segment.value ≡ name) → whole ↔ AgreesBefore (drop at segments) (drop at names) → ¬ whole
walk_fails segments names at segment name whole is goes_on name_is other law h = other ((walks_on segments names at segment name is goes_on name_is).0 (law.0 h)).0

pub walk_on : (segments : List Segment) (names : List (List ℕ)) (at : ℕ) (segment : Segment) (name : List ℕ) (whole : Type 0) → slice_get segments at ≡ Some segment → segment.trailing ≡ false
    → slice_get names at ≡ Some name → (segment.dynamic ≡ false → segment.value ≡ name) → whole ↔ AgreesBefore (drop at segments) (drop at names)
    → whole ↔ AgreesBefore (drop (at + 1) segments) (drop (at + 1) names)
walk_on segments names at segment name whole is goes_on name_is here law =
    let walk = walks_on segments names at segment name is goes_on name_is in
    (λ h. (walk.0 (law.0 h)).1, λ h. law.1 (walk.1 (here, h)))
