-- A header that is put in its place by name.
use Rattle.std.proofs.Common.{◌≡◌, ℕ, Bool, true, false, not, cond, List, [], ◌∷◌, ◌++◌, take, drop, refl, sym, ◌∙◌, ap, subst, inl, inr, arith, suc, ◌+◌}
use Rattle.std.specs.List.{AllByRecursion, filter, insert, position_or_len}
use Rattle.std.specs.Str.{str_eq_ignore_ascii_case}
use Rattle.rkt_http.specs.Headers.{Field}
use Rattle.rkt_shield.specs.Shield.{comes_before, has_name, IsByName, enabled, disabled}
use Rattle.rkt_shield.proofs.Names.{Ranked, ranked, before_trans, not_before, not_same_behind}

-- the name comes before those of all headers
abbrev pub Before : List ℕ → List Field → Type 0
Before name fields = AllByRecursion (λ field. comes_before name field.name ≡ true) fields

-- a name that comes before it comes before them too
before_all : (a b : List ℕ) (fields : List Field) → comes_before a b ≡ true → Before b fields → Before a fields
before_all a b [] p h = tt
before_all a b (f ∷ fs) p h = (before_trans a b f.name p h.0, before_all a b fs p h.1)

-- what holds of all headers holds of those that are kept
all_kept : (P : Field → Type 0) (test : Field → Bool) (fields : List Field) → AllByRecursion P fields → AllByRecursion P (filter test fields)
all_kept P test [] h = tt
all_kept P test (f ∷ fs) h = by_test (test f) (all_kept P test fs h.1)
  where
    by_test : (t : Bool) → AllByRecursion P (filter test fs) → AllByRecursion P (cond t (f ∷ filter test fs) (filter test fs))
    by_test true rest = (h.0, rest)
    by_test false rest = rest

pub by_name_kept : (test : Field → Bool) (fields : List Field) → IsByName fields → IsByName (filter test fields)
by_name_kept test [] h = tt
by_name_kept test (f ∷ fs) h = by_test (test f) (by_name_kept test fs h.1)
  where
    by_test : (t : Bool) → IsByName (filter test fs) → IsByName (cond t (f ∷ filter test fs) (filter test fs))
    by_test true rest = (all_kept (λ other. comes_before f.name other.name ≡ true) test fs h.0, rest)
    by_test false rest = rest

-- the header before the first one whose name it comes before
abbrev pub put_in : Field → List Field → List Field
put_in new [] = new ∷ []
put_in new (f ∷ fs) = cond (comes_before new.name f.name) (new ∷ f ∷ fs) (f ∷ put_in new fs)

take_more : {X : Type 0} (n : ℕ) (x : X) (xs : List X) → take (1 + n) (x ∷ xs) ≡ x ∷ take n xs
take_more n x xs = let e : 1 + n ≡ suc n = omega arith in rw e refl

drop_more : {X : Type 0} (n : ℕ) (x : X) (xs : List X) → drop (1 + n) (x ∷ xs) ≡ drop n xs
drop_more n x xs = let e : 1 + n ≡ suc n = omega arith in rw e refl

pub inserted : (new : Field) (fields : List Field) → insert fields (position_or_len (λ field. comes_before new.name field.name) fields) new ≡ put_in new fields
inserted new [] = refl
inserted new (f ∷ fs) = by_test (comes_before new.name f.name) (inserted new fs)
  where
    by_test : (t : Bool) → insert fs (position_or_len (λ field. comes_before new.name field.name) fs) new ≡ put_in new fs
        → insert (f ∷ fs) (cond (not t) (1 + position_or_len (λ field. comes_before new.name field.name) fs) 0) new ≡ cond t (new ∷ f ∷ fs) (f ∷ put_in new fs)
    by_test true rest = refl
    by_test false rest =
        let n = position_or_len (λ field. comes_before new.name field.name) fs in
        (λ i. take_more n f fs i ++ new ∷ drop_more n f fs i) ∙ ap (λ (xs : List Field). f ∷ xs) rest

-- of headers that all come behind a name, none comes before it, and none has it
none_before : (name : List ℕ) (fields : List Field) → Before name fields → filter (λ field. comes_before field.name name) fields ≡ []
none_before name [] h = refl
none_before name (f ∷ fs) h = rw (not_before name f.name h.0) (none_before name fs h.1)

all_behind : (name : List ℕ) (fields : List Field) → Before name fields → filter (λ field. comes_before name field.name) fields ≡ fields
all_behind name [] h = refl
all_behind name (f ∷ fs) h = rw h.0 (ap (λ (xs : List Field). f ∷ xs) (all_behind name fs h.1))

none_named : (name : List ℕ) (fields : List Field) → Before name fields → disabled fields name ≡ fields
none_named name [] h = refl
none_named name (f ∷ fs) h = rw (not_same_behind name f.name h.0) (ap (λ (xs : List Field). f ∷ xs) (none_named name fs h.1))

put_kept : (new f : Field) (fields : List Field) → has_name new.name f ≡ false → comes_before new.name f.name ≡ false → put_in new (disabled (f ∷ fields) new.name) ≡ f ∷ put_in new (disabled fields new.name)
put_kept new f fields other behind =
    let kept : disabled (f ∷ fields) new.name ≡ f ∷ disabled fields new.name = rw other refl in
    ap (put_in new) kept ∙ rw behind refl

put_here : (new f : Field) (fields : List Field) → has_name new.name f ≡ false → comes_before new.name f.name ≡ true → put_in new (disabled (f ∷ fields) new.name) ≡ new ∷ f ∷ disabled fields new.name
put_here new f fields other behind =
    let kept : disabled (f ∷ fields) new.name ≡ f ∷ disabled fields new.name = rw other refl in
    ap (put_in new) kept ∙ rw behind refl

put_over : (new f : Field) (fields : List Field) → has_name new.name f ≡ true → put_in new (disabled (f ∷ fields) new.name) ≡ put_in new (disabled fields new.name)
put_over new f fields same =
    let gone : disabled (f ∷ fields) new.name ≡ disabled fields new.name = rw same refl in
    ap (put_in new) gone

pub put_enabled : (new : Field) (fields : List Field) → IsByName fields → put_in new (disabled fields new.name) ≡ enabled fields new
put_enabled new [] h = refl
put_enabled new (f ∷ fs) h = by_rank (ranked f.name new.name) (put_enabled new fs h.1)
  where
    by_rank : Ranked (comes_before f.name new.name) (comes_before new.name f.name) (str_eq_ignore_ascii_case f.name new.name)
        → put_in new (disabled fs new.name) ≡ enabled fs new → put_in new (disabled (f ∷ fs) new.name) ≡ enabled (f ∷ fs) new
    by_rank (inl r) rest = put_kept new f fs r.2 r.1 ∙ ap (λ (xs : List Field). f ∷ xs) rest ∙ sym (rw (r.0, r.1) refl)
    by_rank (inr (inl r)) rest =
        let behind : Before new.name fs = before_all new.name f.name fs r.1 h.0 in
        put_here new f fs r.2 r.1
        ∙ (λ i. sym (none_before new.name fs behind) i ++ new ∷ f ∷ (none_named new.name fs behind ∙ sym (all_behind new.name fs behind)) i)
        ∙ sym (rw (r.0, r.1) refl)
    by_rank (inr (inr r)) rest = put_over new f fs r.2 ∙ rest ∙ sym (rw (r.0, r.1) refl)

-- no header has the name
abbrev pub NoneNamed : List ℕ → List Field → Type 0
NoneNamed name fields = AllByRecursion (λ field. has_name name field ≡ false) fields

pub none_left : (name : List ℕ) (fields : List Field) → NoneNamed name (disabled fields name)
none_left name [] = tt
none_left name (f ∷ fs) = by_test (has_name name f) refl (none_left name fs)
  where
    by_test : (t : Bool) → has_name name f ≡ t → NoneNamed name (disabled fs name) → NoneNamed name (cond (not t) (f ∷ disabled fs name) (disabled fs name))
    by_test true e rest = rest
    by_test false e rest = (e, rest)

-- a name comes before a header that is put among others which it comes before
before_put : (name : List ℕ) (new : Field) (fields : List Field) → comes_before name new.name ≡ true → Before name fields → Before name (put_in new fields)
before_put name new [] p h = (p, tt)
before_put name new (f ∷ fs) p h = by_test (comes_before new.name f.name) (before_put name new fs p h.1)
  where
    by_test : (t : Bool) → Before name (put_in new fs) → Before name (cond t (new ∷ f ∷ fs) (f ∷ put_in new fs))
    by_test true rest = (p, h)
    by_test false rest = (h.0, rest)

behind_one : (new f : Field) → comes_before new.name f.name ≡ false → has_name new.name f ≡ false → comes_before f.name new.name ≡ true
behind_one new f p q = elim (ranked f.name new.name) [ inl r ↦ r.0 | inr s ↦ elim s [ inl r ↦ cc | inr r ↦ cc ] ]

pub by_name_put : (new : Field) (fields : List Field) → IsByName fields → NoneNamed new.name fields → IsByName (put_in new fields)
by_name_put new [] h n = (tt, tt)
by_name_put new (f ∷ fs) h n = by_test (comes_before new.name f.name) refl (by_name_put new fs h.1 n.1)
  where
    by_test : (t : Bool) → comes_before new.name f.name ≡ t → IsByName (put_in new fs) → IsByName (cond t (new ∷ f ∷ fs) (f ∷ put_in new fs))
    by_test true e rest = ((e, before_all new.name f.name fs e h.0), h)
    by_test false e rest = (before_put f.name new fs (behind_one new f e n.0) h.0, rest)

-- the header of the name is taken away, and the new one is put in its place
pub put_gives : (new : Field) (fields left seen after : List Field) (name name' : List ℕ) (place : ℕ)
    → IsByName fields → left ≡ disabled fields name → name ≡ new.name → seen ≡ left → place ≡ position_or_len (λ field. comes_before name' field.name) seen → name' ≡ new.name → after ≡ insert left place new
    → (after ≡ enabled fields new) × IsByName after
put_gives new fields left seen after name name' place sorted is_left is_name is_seen is_place is_name' is_after =
    let left' : left ≡ disabled fields new.name = is_left ∙ ap (disabled fields) is_name in
    let place' : place ≡ position_or_len (λ field. comes_before new.name field.name) (disabled fields new.name)
    = is_place ∙ (λ i. position_or_len (λ field. comes_before (is_name' i) field.name) ((is_seen ∙ left') i)) in
    let after' : after ≡ put_in new (disabled fields new.name)
    = is_after ∙ (λ i. insert (left' i) (place' i) new) ∙ inserted new (disabled fields new.name) in (
      after' ∙ put_enabled new fields sorted,
      subst IsByName (sym after') (by_name_put new (disabled fields new.name) (by_name_kept (λ field. not (has_name new.name field)) fields sorted) (none_left new.name fields)),
    )

pub disabled_by_name : (fields left : List Field) (name : List ℕ) → left ≡ disabled fields name → IsByName fields → IsByName left
disabled_by_name fields left name is sorted = subst IsByName (sym is) (by_name_kept (λ field. not (has_name name field)) fields sorted)
