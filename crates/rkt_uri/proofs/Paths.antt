-- A path that segments give goes down by names alone.
use Rattle.std.specs.Prelude.{⊤}
use Rattle.std.proofs.Common.{◌≡◌, ℕ, ◌==◌, ◌<◌, ◌+◌, ◌-◌, ◌||◌, not, nat_lt, arith, append_assoc, append-nil, List, [], ◌∷◌, ◌++◌, Bool, true, false, if◌then◌else◌, All, length, take, refl, sym, ◌∙◌, ap, subst, Option, Some, None}
use Rattle.std.specs.List.{list_any, join_with_byte}
use Rattle.std.proofs.lemmas.Bool.{false≢true}
use Rattle.std.proofs.lemmas.Bool.Decides.{nat_tests}
use Rattle.std.proofs.lemmas.List.{length-take-le, length_push, take-take, take-append-le, take_all}
use Rattle.std.proofs.lemmas.List.Elements.{All-nil, All-push, All-take}
use Rattle.rkt_grammar.specs.Grammar.{OnlyOf}
use Rattle.rkt_uri.specs.FileNames.{IsName, GoesDown}
use Rattle.rkt_uri.specs.PathBuf.{is_here, is_up, name_rules, first_that_applies, name_fault, fault_of, or_else, fault_in, with_segment, ups_of, names_left}
use Rattle.rkt_uri.specs.declared.path_buf.PathError.{PathError}

abbrev NoneApplies : List (Bool × PathError) → Type 0
NoneApplies [] = ⊤
NoneApplies (rule ∷ rows) = (rule.0 ≡ false) × NoneApplies rows

none_applies : (rows : List (Bool × PathError)) → first_that_applies rows ≡ None → NoneApplies rows
none_applies [] e = tt
none_applies (rule ∷ rows) e = by_test rule.0 refl (none_applies rows) e
  where
    by_test : (t : Bool) → rule.0 ≡ t → (first_that_applies rows ≡ None → NoneApplies rows) → (if t then Some rule.1 else first_that_applies rows) ≡ None
        → (rule.0 ≡ false) × NoneApplies rows
    by_test true is more e = absurd (cc e)
    by_test false is more e = (is, more e)

slash_free : (name : List ℕ) → list_any (λ b. b == 47) name ≡ false → OnlyOf (λ b. not (b == 47)) name
slash_free [] e = tt
slash_free (b ∷ bs) e = by_test (b == 47) refl (slash_free bs) e
  where
    by_test : (t : Bool) → (b == 47) ≡ t → (list_any (λ c. c == 47) bs ≡ false → OnlyOf (λ c. not (c == 47)) bs) → (t || list_any (λ c. c == 47) bs) ≡ false
        → (not (b == 47) ≡ true) × OnlyOf (λ c. not (c == 47)) bs
    by_test true is more e = absurd (false≢true (sym e))
    by_test false is more e = (ap not is, more e)

-- a segment that neither stays nor goes up and has no fault is a name
is_name : (dots : Bool) (segment : List ℕ) → is_here segment ≡ false → is_up segment ≡ false → name_fault dots segment ≡ None → IsName segment
is_name dots segment here up e = let none = none_applies (name_rules dots segment) e in record {
  not_empty = λ same. false≢true (sym here ∙ ap is_here same);
  no_dot = λ same. false≢true (sym here ∙ ap is_here same);
  no_dots = λ same. false≢true (sym up ∙ ap is_up same);
  no_slash = slash_free segment none.1.1.1.1.1.0;
}

names_stay : (dots : Bool) (segment : List ℕ) (names : List (List ℕ)) → All IsName names → fault_of dots segment ≡ None → All IsName (with_segment names segment)
names_stay dots segment names all e = by_tests (is_here segment) (is_up segment) refl refl e
  where
    by_tests : (h u : Bool) → is_here segment ≡ h → is_up segment ≡ u → (if h || u then None else name_fault dots segment) ≡ None
        → All IsName (if h then names else (if u then take (length names - 1) names else names ++ segment ∷ []))
    by_tests true u here up e = all
    by_tests false true here up e = All-take IsName (length names - 1) names all
    by_tests false false here up e = All-push IsName names segment all (is_name dots segment here up e)

-- a segment with a fault decides, and one without is passed over
pub found : (dots : Bool) (segment : List ℕ) (segments : List (List ℕ)) (fault : PathError) → fault_of dots segment ≡ Some fault → fault_in dots (segment ∷ segments) ≡ Some fault
found dots segment segments fault is = ap (λ (one : Option PathError). or_else one (fault_in dots segments)) is

pub passed : (dots : Bool) (segment : List ℕ) (segments : List (List ℕ)) → fault_of dots segment ≡ None → fault_in dots (segment ∷ segments) ≡ fault_in dots segments
passed dots segment segments is = ap (λ (one : Option PathError). or_else one (fault_in dots segments)) is

neither : (one other : Option PathError) → or_else one other ≡ None → (one ≡ None) × (other ≡ None)
neither (Some fault) other e = absurd (cc e)
neither None other e = (refl, e)

-- the names that segments leave behind these, one segment after another
abbrev pub names_behind : List (List ℕ) → List (List ℕ) → List (List ℕ)
names_behind names [] = names
names_behind names (segment ∷ segments) = names_behind (with_segment names segment) segments

one_less : (names : List (List ℕ)) (ups : ℕ) → take (length (take (length names - 1) names) - ups) (take (length names - 1) names) ≡ take (length names - (ups + 1)) names
one_less names ups =
    let len : length (take (length names - 1) names) ≡ length names - 1 = length-take-le (length names - 1) names (omega arith) in
    let same : length names - 1 - ups ≡ length names - (ups + 1) = omega arith in
    ap (λ (n : ℕ). take (n - ups) (take (length names - 1) names)) len
    ∙ take-take (length names - 1 - ups) (length names - 1) names (omega arith)
    ∙ ap (λ (n : ℕ). take n names) same

taken : (names : List (List ℕ)) (segment : List ℕ) (ups : ℕ) → nat_lt 0 ups ≡ true → take (length (names ++ segment ∷ []) - ups) (names ++ segment ∷ []) ≡ take (length names - (ups - 1)) names
taken names segment ups is =
    let some : 0 < ups = grind (arith, nat_tests, is) in
    let len : length (names ++ segment ∷ []) ≡ length names + 1 = length_push names segment in
    let same : length names + 1 - ups ≡ length names - (ups - 1) = omega arith in
    ap (λ (n : ℕ). take (n - ups) (names ++ segment ∷ [])) len
    ∙ ap (λ (n : ℕ). take n (names ++ segment ∷ [])) same
    ∙ take-append-le (length names - (ups - 1)) names (segment ∷ []) (omega arith)

stays : (names left : List (List ℕ)) (segment : List ℕ) (ups : ℕ) → nat_lt 0 ups ≡ false
    → take (length (names ++ segment ∷ []) - ups) (names ++ segment ∷ []) ++ left ≡ take (length names - (ups - 1)) names ++ (segment ∷ left)
stays names left segment ups is =
    let none : ups ≡ 0 = grind (arith, nat_tests, is) in
    let whole : take (length (names ++ segment ∷ []) - ups) (names ++ segment ∷ []) ≡ names ++ segment ∷ [] = take_all _ _ (omega arith) in
    let front : take (length names - (ups - 1)) names ≡ names = take_all _ _ (omega arith) in
    ap (λ (x : List (List ℕ)). x ++ left) whole ∙ append_assoc names (segment ∷ []) left ∙ sym (ap (λ (x : List (List ℕ)). x ++ (segment ∷ left)) front)

-- the two dots that are left over take away the last of the names before, and then those names stand that are left
left_behind : (names segments : List (List ℕ)) → names_behind names segments ≡ take (length names - ups_of segments) names ++ names_left segments
left_behind names [] = sym (append-nil _ ∙ take_all (length names - 0) names (omega arith))
left_behind names (segment ∷ segments) = by_tests (is_here segment) (is_up segment) (nat_lt 0 (ups_of segments)) refl (λ kept. left_behind kept segments)
  where
    by_tests : (h u t : Bool) → nat_lt 0 (ups_of segments) ≡ t
        → ((kept : List (List ℕ)) → names_behind kept segments ≡ take (length kept - ups_of segments) kept ++ names_left segments)
        → names_behind (if h then names else (if u then take (length names - 1) names else names ++ segment ∷ [])) segments
        ≡ take (length names - (if h then ups_of segments else (if u then ups_of segments + 1 else ups_of segments - 1))) names
        ++ (if h || u || t then names_left segments else segment ∷ names_left segments)
    by_tests true u t is rest = rest names
    by_tests false true t is rest = rest (take (length names - 1) names) ∙ ap (λ (x : List (List ℕ)). x ++ names_left segments) (one_less names (ups_of segments))
    by_tests false false true is rest = rest (names ++ segment ∷ []) ∙ ap (λ (x : List (List ℕ)). x ++ names_left segments) (taken names segment (ups_of segments) is)
    by_tests false false false is rest = rest (names ++ segment ∷ []) ∙ stays names (names_left segments) segment (ups_of segments) is

-- where no name stands before, just those are left
pub all_left : (segments : List (List ℕ)) → names_behind [] segments ≡ names_left segments
all_left segments = left_behind [] segments ∙ ap (λ (x : List (List ℕ)). x ++ names_left segments) (take_all (0 - ups_of segments) [] (omega arith))

are_names : (dots : Bool) (segments names : List (List ℕ)) → All IsName names → fault_in dots segments ≡ None → All IsName (names_behind names segments)
are_names dots [] names all e = all
are_names dots (segment ∷ segments) names all e =
    let none = neither (fault_of dots segment) (fault_in dots segments) e in
    are_names dots segments (with_segment names segment) (names_stay dots segment names all none.0) none.1

pub goes_down : (dots : Bool) (segments : List (List ℕ)) (path : List ℕ) → fault_in dots segments ≡ None → path ≡ join_with_byte 47 (names_left segments) → GoesDown path
goes_down dots segments path e is = (names_left segments, subst (All IsName) (all_left segments) (are_names dots segments [] (All-nil IsName) e), is)
