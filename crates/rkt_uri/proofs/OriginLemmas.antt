-- A text and what it says as an origin.
use Rattle.std.proofs.Common.{◌≡◌, ℕ, suc, ◌+◌, ◌<◌, ◌≤◌, ◌==◌, Bool, true, false, not, nat_lt, if◌then◌else◌, List, [], ◌∷◌, ◌++◌, length, take, drop, get_or, refl, sym, ◌∙◌, ap, subst, arith, add-one, Option, Some, None}
use Rattle.std.proofs.lemmas.Bool.{false≢true}
use Rattle.std.proofs.lemmas.Bool.Decides.{nat_tests}
use Rattle.std.specs.List.{before_first, position_or_len}
use Rattle.std.specs.String.Boundary.{IsSplitPoint}
use Rattle.rkt_grammar.specs.Grammar.{OnlyOf}
use Rattle.rkt_uri.specs.declared.origin_place.Profile.{Profile}
use Rattle.rkt_uri.specs.Origin.{is_path_byte, is_question, query_text, query_in, Target, target_of, spelling, Spells, IsOrigin, IsKept, segments_of, fields_of}
use Rattle.rkt_uri.specs.OriginPlaceLaws.{no_question_in_path}

position_more : (b : ℕ) (bs : List ℕ) → (b == 63) ≡ false → position_or_len is_question (b ∷ bs) ≡ suc (position_or_len is_question bs)
position_more b bs is = rw is (omega arith)

position_here : (b : ℕ) (bs : List ℕ) → (b == 63) ≡ true → position_or_len is_question (b ∷ bs) ≡ 0
position_here b bs is = rw is

lt_suc : (m n : ℕ) → nat_lt (suc m) (suc n) ≡ nat_lt m n
lt_suc m n = grind (arith, nat_tests)

zero_lt_suc : (n : ℕ) → nat_lt 0 (suc n) ≡ true
zero_lt_suc n = grind (arith, nat_tests)

path_more : (b : ℕ) (bs : List ℕ) → (b == 63) ≡ false → before_first is_question (b ∷ bs) ≡ b ∷ before_first is_question bs
path_more b bs is = ap (λ (n : ℕ). take n (b ∷ bs)) (position_more b bs is)

path_here : (b : ℕ) (bs : List ℕ) → (b == 63) ≡ true → before_first is_question (b ∷ bs) ≡ []
path_here b bs is = ap (λ (n : ℕ). take n (b ∷ bs)) (position_here b bs is)

query_at : List ℕ → ℕ → Option (List ℕ)
query_at text n = if nat_lt n (length text) then Some (drop (n + 1) text) else None

query_moved : (b : ℕ) (bs : List ℕ) (n : ℕ) → query_at (b ∷ bs) (suc n) ≡ query_at bs n
unfolding query_at
query_moved b bs n = rw (lt_suc n (length bs), add-one (suc n), add-one n) refl

query_more : (b : ℕ) (bs : List ℕ) → (b == 63) ≡ false → query_in (b ∷ bs) ≡ query_in bs
unfolding query_at
query_more b bs is = ap (query_at (b ∷ bs)) (position_more b bs is) ∙ query_moved b bs (position_or_len is_question bs)

query_here : (b : ℕ) (bs : List ℕ) → (b == 63) ≡ true → query_in (b ∷ bs) ≡ Some bs
unfolding query_at
query_here b bs is = ap (query_at (b ∷ bs)) (position_here b bs is) ∙ rw (zero_lt_suc (length bs)) refl

-- a text is the spelling of what it says
pub spelled_back : (text : List ℕ) → text ≡ spelling (target_of text)
spelled_back [] = refl
spelled_back (b ∷ bs) = by_test b bs (b == 63) refl (spelled_back bs)
  where
    by_test : (b : ℕ) (bs : List ℕ) (t : Bool) → (b == 63) ≡ t → bs ≡ spelling (target_of bs) → b ∷ bs ≡ spelling (target_of (b ∷ bs))
    by_test b bs true is h = rw (path_here b bs is, query_here b bs is) (grind (arith, nat_tests, is))
    by_test b bs false is h = rw (path_more b bs is, query_more b bs is) (ap (λ (cs : List ℕ). b ∷ cs) h)

-- a text says what it is the spelling of
pub says : (path : List ℕ) (query : Option (List ℕ)) → OnlyOf (λ b. not (is_question b)) path
    → target_of (path ++ query_text query) ≡ record { path = path; query = query }
says [] None only = refl
says [] (Some query) only = rw (query_here 63 query refl) refl
says (b ∷ path) query only =
    let other = of_not (b == 63) only.0 in
    rw (path_more b (path ++ query_text query) other, query_more b (path ++ query_text query) other)
    (ap (λ (t : Target). record { path = b ∷ t.path; query = t.query }) (says path query only.1))
  where
    of_not : (t : Bool) → not t ≡ true → t ≡ false
    of_not true e = absurd (false≢true e)
    of_not false e = refl

-- no byte of a path is a question mark
question_free : (profile : Profile) (path : List ℕ) → OnlyOf (is_path_byte profile) path → OnlyOf (λ b. not (is_question b)) path
question_free profile [] only = tt
question_free profile (b ∷ path) only = (by_test (b == 63) refl, question_free profile path only.1)
  where
    by_test : (t : Bool) → (b == 63) ≡ t → not t ≡ true
    by_test false is = refl
    by_test true is = let same : b ≡ 63 = grind (arith, nat_tests, is) in
        absurd (false≢true (sym (ap (is_path_byte profile) same ∙ no_question_in_path profile) ∙ only.0))

-- nor is any before the first one
pub front_free : (text : List ℕ) → OnlyOf (λ b. not (is_question b)) (before_first is_question text)
front_free [] = tt
front_free (b ∷ bs) = by_test b bs (b == 63) refl (front_free bs)
  where
    by_test : (b : ℕ) (bs : List ℕ) (t : Bool) → (b == 63) ≡ t → OnlyOf (λ b. not (is_question b)) (before_first is_question bs)
        → OnlyOf (λ b. not (is_question b)) (before_first is_question (b ∷ bs))
    by_test b bs true is h = rw (path_here b bs is) tt
    by_test b bs false is h = rw (path_more b bs is) (ap not is, h)

-- what a text spells is what it says
pub target_said : (profile : Profile) (text : List ℕ) (target : Target) → Spells profile text target → target_of text ≡ target
target_said profile text target s = ap target_of s.spelled ∙ says target.path target.query (question_free profile target.path s.fits.path)

pub said : (profile : Profile) (text : List ℕ) → IsOrigin profile text → Spells profile text (target_of text)
said profile text o = let P : Target → Type 0 = Spells profile text in subst P (sym (target_said profile text o.0 o.1)) o.1

-- what the text of an origin's bytes is
pub accepted_as : (profile : Profile) (bytes text : List ℕ) (target : Target) → bytes ≡ text → IsOrigin profile bytes → target ≡ target_of text → Spells profile text target
accepted_as profile bytes text target same o is =
    let P : Target → Type 0 = Spells profile text in
    subst P (sym is) (said profile text (let Q : List ℕ → Type 0 = IsOrigin profile in subst Q same o))

-- the path of a text is a text without a query
front_says : (text : List ℕ) → target_of (before_first is_question text) ≡ record { path = before_first is_question text; query = None }
front_says [] = refl
front_says (b ∷ bs) = by_test b bs (b == 63) refl (front_says bs)
  where
    by_test : (b : ℕ) (bs : List ℕ) (t : Bool) → (b == 63) ≡ t → target_of (before_first is_question bs) ≡ record { path = before_first is_question bs; query = None }
        → target_of (before_first is_question (b ∷ bs)) ≡ record { path = before_first is_question (b ∷ bs); query = None }
    by_test b bs true is h = rw (path_here b bs is) refl
    by_test b bs false is h =
        rw (path_more b bs is, path_more b (before_first is_question bs) is, query_more b (before_first is_question bs) is)
        (ap (λ (t : Target). record { path = b ∷ t.path; query = t.query }) h)

path_len : (text : List ℕ) → length (before_first is_question text) ≡ position_or_len is_question text
path_len [] = refl
path_len (b ∷ bs) = by_test b bs (b == 63) refl (path_len bs)
  where
    by_test : (b : ℕ) (bs : List ℕ) (t : Bool) → (b == 63) ≡ t → length (before_first is_question bs) ≡ position_or_len is_question bs
        → length (before_first is_question (b ∷ bs)) ≡ position_or_len is_question (b ∷ bs)
    by_test b bs true is h = rw (path_here b bs is, position_here b bs is) refl
    by_test b bs false is h = rw (path_more b bs is, position_more b bs is) (ap (λ (n : ℕ). suc n) h)

question_at : (text : List ℕ) → position_or_len is_question text < length text → get_or text (position_or_len is_question text) 0 ≡ 63
question_at [] within = absurd (omega arith)
question_at (b ∷ bs) within = by_test b bs (b == 63) refl (question_at bs) within
  where
    by_test : (b : ℕ) (bs : List ℕ) (t : Bool) → (b == 63) ≡ t
        → (position_or_len is_question bs < length bs → get_or bs (position_or_len is_question bs) 0 ≡ 63)
        → position_or_len is_question (b ∷ bs) < length (b ∷ bs) → get_or (b ∷ bs) (position_or_len is_question (b ∷ bs)) 0 ≡ 63
    by_test b bs true is h within = rw (position_here b bs is) (grind (arith, nat_tests, is))
    by_test b bs false is h within = let place = position_more b bs is in rw place (h (omega arith))

-- a text may be cut behind its path
pub splits_there : (text : List ℕ) (n : ℕ) → n ≡ length (before_first is_question text) → n ≤ length text → IsSplitPoint text n
splits_there text n is within =
    let place : n ≡ position_or_len is_question text = is ∙ path_len text in
    (within, λ some below high. let there : get_or text n 0 ≡ 63 = ap (λ (k : ℕ). get_or text k 0) place ∙ question_at text (omega arith) in absurd (omega arith))

pub cut_there : (text : List ℕ) (n : ℕ) → n ≡ length (before_first is_question text) → take n text ≡ before_first is_question text
cut_there text n is = ap (λ (k : ℕ). take k text) (is ∙ path_len text)

pub says_path : (text : List ℕ) (n : ℕ) → n ≡ length (before_first is_question text)
    → target_of (take n text) ≡ record { path = (target_of text).path; query = None }
says_path text n is = ap target_of (cut_there text n is) ∙ front_says text

-- the parts that are kept beside it
pub keeps_path : (text : List ℕ) (n : ℕ) (segments : List (List ℕ)) → n ≡ length (before_first is_question text) → segments ≡ segments_of (target_of text)
    → IsKept (take n text) segments []
keeps_path text n segments is same = let t = says_path text n is in record {
  segments_are = same ∙ sym (ap segments_of t);
  fields_are = sym (ap fields_of t);
}
