-- A group by its place, and by its name.
use Rattle.std.proofs.Common.{◌≡◌, ℕ, zero, suc, ◌<◌, ◌≤◌, nat_lt, cond, Bool, true, false, if◌then◌else◌, List, [], ◌∷◌, ◌++◌, length, refl, sym, ◌∙◌, ap, subst, arith, Option, Some, None, is_some, find, Result, Ok, Err, OnOk, slice_set, slice_index_or, take}
use Rattle.std.specs.List.{position, position_or_len, remove}
use Rattle.std.proofs.Math.Seq.{take-append_seam}
use Rattle.std.proofs.lemmas.Bool.Decides.{nat_tests}
use Rattle.rkt_http.specs.Headers.{Group, is_named, with_group, removed, added_all, appended, changed_at}

cond_some : (t : Bool) (n i : ℕ) → cond t (Some n) None ≡ Some i → (t ≡ true) × (n ≡ i)
cond_some true n i e = (refl, cc e)
cond_some false n i e = absurd (cc e)

cond_none : (t : Bool) (n : ℕ) → cond t (Some n) None ≡ None → t ≡ false
cond_none true n e = absurd (cc e)
cond_none false n e = refl

is_lt : (m n : ℕ) → nat_lt m n ≡ true → m < n
is_lt m n e = grind (arith, nat_tests, e)

not_lt : (m n : ℕ) → nat_lt m n ≡ false → n ≤ m
not_lt m n e = grind (arith, nat_tests, e)

at_place : (name : List ℕ) (groups : List Group) (i : ℕ) → position (is_named name) groups ≡ Some i
    → (i ≡ position_or_len (is_named name) groups) × (i < length groups)
at_place name groups i e =
    let found = cond_some _ _ _ e in
    let same : position_or_len (is_named name) groups ≡ i = found.1 in
    let below : position_or_len (is_named name) groups < length groups = is_lt _ _ found.0 in
    (sym same, omega arith)

no_place : (name : List ℕ) (groups : List Group) → position (is_named name) groups ≡ None → length groups ≤ position_or_len (is_named name) groups
no_place name groups e = not_lt _ _ (cond_none _ _ e)

place_here : (name : List ℕ) (g : Group) (gs : List Group) → is_named name g ≡ true → position_or_len (is_named name) (g ∷ gs) ≡ 0
place_here name g gs is = rw is

place_later : (name : List ℕ) (g : Group) (gs : List Group) → is_named name g ≡ false
    → position_or_len (is_named name) (g ∷ gs) ≡ suc (position_or_len (is_named name) gs)
place_later name g gs is = rw is (omega arith)

changed_first : (change : Group → Group) (groups : List Group) (made : Group) (n : ℕ) → n ≡ position_or_len (is_named made.name) groups → n < length groups
    → changed_at n change groups ≡ with_group change made groups
changed_first change [] made n is within = absurd (omega arith)
changed_first change (g ∷ gs) made n is within = by_test (is_named made.name g) n refl is within (λ m. changed_first change gs made m)
  where
    by_test : (t : Bool) (n : ℕ) → is_named made.name g ≡ t → n ≡ position_or_len (is_named made.name) (g ∷ gs) → n < length (g ∷ gs)
        → ((m : ℕ) → m ≡ position_or_len (is_named made.name) gs → m < length gs → changed_at m change gs ≡ with_group change made gs)
        → changed_at n change (g ∷ gs) ≡ (if t then change g ∷ gs else g ∷ with_group change made gs)
    by_test true zero test is within more = refl
    by_test true (suc n) test is within more = absurd (omega (arith, place_here made.name g gs test))
    by_test false zero test is within more = absurd (omega (arith, place_later made.name g gs test))
    by_test false (suc n) test is within more =
        ap (λ (xs : List Group). g ∷ xs) (more n (omega (arith, place_later made.name g gs test)) (omega arith))

push_last : (change : Group → Group) (groups : List Group) (made : Group) → length groups ≤ position_or_len (is_named made.name) groups
    → groups ++ made ∷ [] ≡ with_group change made groups
push_last change [] made none = refl
push_last change (g ∷ gs) made none = by_test (is_named made.name g) refl (push_last change gs made)
  where
    by_test : (t : Bool) → is_named made.name g ≡ t → (length gs ≤ position_or_len (is_named made.name) gs → gs ++ made ∷ [] ≡ with_group change made gs) → (g ∷ gs) ++ made ∷ [] ≡ (if t then change g ∷ gs else g ∷ with_group change made gs)
    by_test true test more = absurd (omega (arith, place_here made.name g gs test))
    by_test false test more = ap (λ (xs : List Group). g ∷ xs) (more (omega (arith, place_later made.name g gs test)))

remove_first : (groups : List Group) (name : List ℕ) (n : ℕ) → n ≡ position_or_len (is_named name) groups → n < length groups → remove groups n ≡ removed groups name
remove_first [] name n is within = absurd (omega arith)
remove_first (g ∷ gs) name n is within = by_test (is_named name g) n refl is within (λ m. remove_first gs name m)
  where
    by_test : (t : Bool) (n : ℕ) → is_named name g ≡ t → n ≡ position_or_len (is_named name) (g ∷ gs) → n < length (g ∷ gs)
        → ((m : ℕ) → m ≡ position_or_len (is_named name) gs → m < length gs → remove gs m ≡ removed gs name)
        → remove (g ∷ gs) n ≡ (if t then gs else g ∷ removed gs name)
    by_test true zero test is within more = refl
    by_test true (suc n) test is within more = absurd (omega (arith, place_here name g gs test))
    by_test false zero test is within more = absurd (omega (arith, place_later name g gs test))
    by_test false (suc n) test is within more =
        ap (λ (xs : List Group). g ∷ xs) (more n (omega (arith, place_later name g gs test)) (omega arith))

remove_none : (groups : List Group) (name : List ℕ) → length groups ≤ position_or_len (is_named name) groups → groups ≡ removed groups name
remove_none [] name none = refl
remove_none (g ∷ gs) name none = by_test (is_named name g) refl (remove_none gs name)
  where
    by_test : (t : Bool) → is_named name g ≡ t → (length gs ≤ position_or_len (is_named name) gs → gs ≡ removed gs name) → g ∷ gs ≡ (if t then gs else g ∷ removed gs name)
    by_test true test more = absurd (omega (arith, place_here name g gs test))
    by_test false test more = ap (λ (xs : List Group). g ∷ xs) (more (omega (arith, place_later name g gs test)))

-- a group that was changed at its place
pub changed_there : (change : Group → Group) (made : Group) (groups mid old : List Group) (name : List ℕ) (place : Option ℕ) (at : ℕ) (new : List Group)
    → place ≡ position (is_named name) mid → mid ≡ groups → old ≡ mid → name ≡ made.name → place ≡ Some at → new ≡ changed_at at change old → new ≡ with_group change made groups
changed_there change made groups mid old name place at new found view same named is changed =
    let there : position (is_named made.name) groups ≡ Some at = sym (found ∙ (λ i. position (is_named (named i)) (view i))) ∙ is in
    let spot = at_place made.name groups at there in
    changed ∙ ap (changed_at at change) (same ∙ view) ∙ changed_first change groups made at spot.0 spot.1

-- one that was put behind the others
pub put_last : (change : Group → Group) (made : Group) (groups mid old : List Group) (name : List ℕ) (place : Option ℕ) (new : List Group)
    → place ≡ position (is_named name) mid → mid ≡ groups → old ≡ mid → name ≡ made.name → place ≡ None → new ≡ old ++ made ∷ [] → new ≡ with_group change made groups
put_last change made groups mid old name place new found view same named is pushed =
    let none : position (is_named made.name) groups ≡ None = sym (found ∙ (λ i. position (is_named (named i)) (view i))) ∙ is in
    pushed ∙ ap (λ (gs : List Group). gs ++ made ∷ []) (same ∙ view) ∙ push_last change groups made (no_place made.name groups none)

-- a group that is written in its place
pub changed_set : (groups : List Group) (at : ℕ) (group new : Group) (change : Group → Group) → group ≡ slice_index_or groups at group → at < length groups → new ≡ change group
    → slice_set groups at new ≡ changed_at at change groups
changed_set [] at group new change there within is = absurd (omega (arith, within))
changed_set (g ∷ gs) zero group new change there within is = ap (λ (h : Group). h ∷ gs) (is ∙ ap change there)
changed_set (g ∷ gs) (suc at) group new change there within is = ap (λ (hs : List Group). g ∷ hs) (changed_set gs at group new change there (omega (arith, within)) is)

pub changed_on_ok : {E : Type 0} (r : Result (Unit {0}) E) (groups : List Group) (at : ℕ) (group new : Group) (change : Group → Group) (old : List Group) → group ≡ slice_index_or groups at group → at < length old → groups ≡ old
    → OnOk r (new ≡ change group) → OnOk r (slice_set groups at new ≡ changed_at at change old)
changed_on_ok {E} r groups at group new change old there within view = by_answer r
  where
    by_answer : (a : Result (Unit {0}) E) → OnOk a (new ≡ change group) → OnOk a (slice_set groups at new ≡ changed_at at change old)
    by_answer (Ok x) ok = changed_set groups at group new change there (subst (λ (gs : List Group). at < length gs) (sym view) within) ok ∙ ap (changed_at at change) view
    by_answer (Err e) ok = tt

-- the first of the groups that are appended, and then the others
pub appended_first : (old mid all others rest : List Group) (other : Group) → others ≡ other ∷ rest → mid ≡ added_all old other.name other.values → all ≡ appended mid rest → all ≡ appended old others
appended_first old mid all others rest other first grown more = more ∙ ap (λ (gs : List Group). appended gs rest) grown ∙ sym (ap (appended old) first)

-- a group that grew, and is cut off where it ended before
changed_back : (groups : List Group) (at count : ℕ) (values : List (List ℕ)) (group : Group) → group ≡ slice_index_or groups at group → at < length groups → count ≡ length group.values
    → changed_at at (λ g. record g { values = take count g.values }) (changed_at at (λ g. record g { values = g.values ++ values }) groups) ≡ groups
changed_back [] at count values group there within is = absurd (omega (arith, within))
changed_back (g ∷ gs) zero count values group there within is =
    let cut : take count (g.values ++ values) ≡ g.values = ap (λ (n : ℕ). take n (g.values ++ values)) (is ∙ ap (λ (h : Group). length h.values) there) ∙ take-append_seam g.values values in
    ap (λ (vs : List (List ℕ)). record g { values = vs } ∷ gs) cut
changed_back (g ∷ gs) (suc at) count values group there within is =
    ap (λ (hs : List Group). g ∷ hs) (changed_back gs at count values group there (omega (arith, within)) is)

length-changed_at : (at : ℕ) (change : Group → Group) (groups : List Group) → length (changed_at at change groups) ≡ length groups
length-changed_at zero change [] = refl
length-changed_at (suc at) change [] = refl
length-changed_at zero change (g ∷ gs) = refl
length-changed_at (suc at) change (g ∷ gs) = ap (λ (n : ℕ). suc n) (length-changed_at at change gs)

-- a place stays one where a group was changed
pub still_within : (old mid new : List Group) (at : ℕ) (change : Group → Group) → at < length old → mid ≡ changed_at at change old → new ≡ mid → at < length new
still_within old mid new at change within changed same =
    subst (λ (n : ℕ). at < n) (sym (ap (λ (gs : List Group). length gs) (same ∙ changed) ∙ length-changed_at at change old)) within

-- what was put behind the values of a group is taken away again
pub taken_back : (old mid all new : List Group) (at count : ℕ) (values : List (List ℕ)) (group : Group) → group ≡ slice_index_or old at group → at < length old → count ≡ length group.values
    → mid ≡ changed_at at (λ g. record g { values = g.values ++ values }) old → all ≡ mid → new ≡ changed_at at (λ g. record g { values = take count g.values }) all → new ≡ old
taken_back old mid all new at count values group there within is grown same cut =
    cut ∙ ap (changed_at at (λ g. record g { values = take count g.values })) (same ∙ grown) ∙ changed_back old at count values group there within is

pub removed_there : (groups : List Group) (name : List ℕ) (at : ℕ) → position (is_named name) groups ≡ Some at → remove groups at ≡ removed groups name
removed_there groups name at is = let place = at_place name groups at is in remove_first groups name at place.0 place.1

pub removed_none : (groups : List Group) (name : List ℕ) → position (is_named name) groups ≡ None → groups ≡ removed groups name
removed_none groups name is = remove_none groups name (no_place name groups is)

zero_lt_suc : (n : ℕ) → nat_lt 0 (suc n) ≡ true
zero_lt_suc n = grind (arith, nat_tests)

lt_suc : (m n : ℕ) → nat_lt (suc m) (suc n) ≡ nat_lt m n
lt_suc m n = grind (arith, nat_tests)

-- a group is found exactly where it has a place
is_some-find : (name : List ℕ) (groups : List Group) → is_some (find (is_named name) groups) ≡ nat_lt (position_or_len (is_named name) groups) (length groups)
is_some-find name [] = refl
is_some-find name (g ∷ gs) = by_test (is_named name g) refl (is_some-find name gs)
  where
    by_test : (t : Bool) → is_named name g ≡ t → is_some (find (is_named name) gs) ≡ nat_lt (position_or_len (is_named name) gs) (length gs)
        → is_some (cond t (Some g) (find (is_named name) gs)) ≡ nat_lt (position_or_len (is_named name) (g ∷ gs)) (length (g ∷ gs))
    by_test true test more = rw (place_here name g gs test) (sym (zero_lt_suc (length gs)))
    by_test false test more = more ∙ sym (ap (λ (n : ℕ). nat_lt n (suc (length gs))) (place_later name g gs test) ∙ lt_suc (position_or_len (is_named name) gs) (length gs))

some_cond : (t : Bool) (n : ℕ) → is_some (cond t (Some n) None) ≡ t
some_cond true n = refl
some_cond false n = refl

-- whether a group is there, by its place
pub is_there : (groups mid : List Group) (name name' : List ℕ) (place : Option ℕ) → place ≡ position (is_named name') mid → mid ≡ groups → name' ≡ name → is_some place ≡ is_some (find (is_named name) groups)
is_there groups mid name name' place found view named = ap is_some (found ∙ (λ i. position (is_named (named i)) (view i))) ∙ some_cond _ _ ∙ sym (is_some-find name groups)
