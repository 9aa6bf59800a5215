-- Pieces without separators in them, joined and cut again.
use Rattle.std.proofs.Common.{◌≡◌, ℕ, ◌==◌, Bool, true, false, not, cond, List, [], ◌∷◌, ◌++◌, length, filter, refl, sym, ◌∙◌, ap, subst, unwrap_or, map}
use Rattle.std.proofs.lemmas.Bool.{false≢true}
use Rattle.std.specs.List.{slice_split, onto_first, join_with_byte}
use Rattle.rkt_grammar.specs.Grammar.{OnlyOf}
use Rattle.rkt_uri.specs.Origin.{pieces, Target, normalized, raw_segments_of, joined_unless_none, is_question, target_of, spelling, segments_of, fields_of, normal_form, IsKept, decoded, field_of}
use Rattle.rkt_uri.proofs.OriginLemmas.{says, front_free}

-- a fact of each list
abbrev pub Each : (List ℕ → Type 0) → List (List ℕ) → Type 0
Each P [] = Unit {0}
Each P (x ∷ xs) = P x × Each P xs

-- each byte fails the test
abbrev pub Without : (ℕ → Bool) → List ℕ → Type 0
Without test xs = OnlyOf (λ b. not (test b)) xs

not_true : (t : Bool) → t ≡ false → not t ≡ true
not_true t is = ap not is

of_not : (t : Bool) → not t ≡ true → t ≡ false
of_not true e = absurd (false≢true e)
of_not false e = refl

-- a test that each byte of a text passes is passed in each part of it
each_split : (P : ℕ → Bool) (test : ℕ → Bool) (xs : List ℕ) → OnlyOf P xs → Each (OnlyOf P) (slice_split test xs)
each_split P test [] only = (tt, tt)
each_split P test (x ∷ xs) only = by_test (test x) (slice_split test xs) (each_split P test xs only.1)
  where
    by_test : (t : Bool) (parts : List (List ℕ)) → Each (OnlyOf P) parts → Each (OnlyOf P) (cond t ([] ∷ parts) (onto_first x parts))
    by_test true parts each = (tt, each)
    by_test false [] each = ((only.0, tt), tt)
    by_test false (part ∷ parts) each = ((only.0, each.0), each.1)

-- no part has the separator in it
each_without : (test : ℕ → Bool) (xs : List ℕ) → Each (Without test) (slice_split test xs)
each_without test [] = (tt, tt)
each_without test (x ∷ xs) = by_test (test x) refl (slice_split test xs) (each_without test xs)
  where
    by_test : (t : Bool) → test x ≡ t → (parts : List (List ℕ)) → Each (Without test) parts → Each (Without test) (cond t ([] ∷ parts) (onto_first x parts))
    by_test true is parts each = (tt, each)
    by_test false is [] each = ((not_true (test x) is, tt), tt)
    by_test false is (part ∷ parts) each = ((not_true (test x) is, each.0), each.1)

-- a piece: not empty, and without the separator
abbrev pub IsPiece : ℕ → List ℕ → Type 0
IsPiece c p = ((length p == 0) ≡ false) × Without (λ b. b == c) p

each_kept : (P : List ℕ → Type 0) (parts : List (List ℕ)) → Each P parts → Each (λ p. ((length p == 0) ≡ false) × P p) (filter (λ p. not (length p == 0)) parts)
each_kept P [] each = tt
each_kept P (p ∷ parts) each = by_test (length p == 0) refl (each_kept P parts each.1)
  where
    by_test : (t : Bool) → (length p == 0) ≡ t → Each (λ p. ((length p == 0) ≡ false) × P p) (filter (λ p. not (length p == 0)) parts)
        → Each (λ p. ((length p == 0) ≡ false) × P p) (cond (not t) (p ∷ filter (λ p. not (length p == 0)) parts) (filter (λ p. not (length p == 0)) parts))
    by_test true is more = more
    by_test false is more = ((is, each.0), more)

pub each_piece : (c : ℕ) (text : List ℕ) → Each (IsPiece c) (pieces c text)
each_piece c text = each_kept (Without (λ b. b == c)) (slice_split (λ b. b == c) text) (each_without (λ b. b == c) text)

-- a part that ends at a separator
split_part : (c : ℕ) (part rest : List ℕ) → (c == c) ≡ true → Without (λ b. b == c) part → slice_split (λ b. b == c) (part ++ c ∷ rest) ≡ part ∷ slice_split (λ b. b == c) rest
split_part c [] rest same clean = rw same refl
split_part c (b ∷ part) rest same clean = rw (of_not (b == c) clean.0) (ap (onto_first b) (split_part c part rest same clean.1))

split_last : (c : ℕ) (part : List ℕ) → Without (λ b. b == c) part → slice_split (λ b. b == c) part ≡ part ∷ []
split_last c [] clean = refl
split_last c (b ∷ part) clean = rw (of_not (b == c) clean.0) (ap (onto_first b) (split_last c part clean.1))

kept_first : (p : List ℕ) (parts : List (List ℕ)) → (length p == 0) ≡ false
    → filter (λ p. not (length p == 0)) (p ∷ parts) ≡ p ∷ filter (λ p. not (length p == 0)) parts
kept_first p parts some = rw some refl

-- pieces that are joined are cut into the same pieces
pub pieces-join_with_byte : (c : ℕ) (ps : List (List ℕ)) → (c == c) ≡ true → Each (IsPiece c) ps → pieces c (join_with_byte c ps) ≡ ps
pieces-join_with_byte c [] same each = refl
pieces-join_with_byte c (p ∷ []) same each = ap (filter (λ p. not (length p == 0))) (split_last c p each.0.1) ∙ kept_first p [] each.0.0
pieces-join_with_byte c (p ∷ q ∷ ps) same each =
    ap (filter (λ p. not (length p == 0))) (split_part c p (join_with_byte c (q ∷ ps)) same each.0.1)
    ∙ kept_first p (slice_split (λ b. b == c) (join_with_byte c (q ∷ ps))) each.0.0 ∙ ap (λ (more : List (List ℕ)). p ∷ more) (pieces-join_with_byte c (q ∷ ps) same each.1)

pub pieces_again : (c : ℕ) (text : List ℕ) → (c == c) ≡ true → pieces c (join_with_byte c (pieces c text)) ≡ pieces c text
pieces_again c text same = pieces-join_with_byte c (pieces c text) same (each_piece c text)

-- the fields' pieces stay
query_pieces : (ps : List (List ℕ)) → pieces 38 (join_with_byte 38 ps) ≡ ps → pieces 38 (unwrap_or (joined_unless_none 38 ps) []) ≡ ps
query_pieces [] e = refl
query_pieces (p ∷ ps) e = e

pub pieces-normal_query : (target : Target) → pieces 38 (unwrap_or (normalized target).query []) ≡ pieces 38 (unwrap_or target.query [])
pieces-normal_query target = query_pieces (pieces 38 (unwrap_or target.query [])) (pieces_again 38 (unwrap_or target.query []) refl)

pub raw_segments-normalized : (target : Target) → raw_segments_of (normalized target) ≡ raw_segments_of target
raw_segments-normalized target = pieces_again 47 target.path refl

pub normalized_again : (target : Target) → normalized (normalized target) ≡ normalized target
normalized_again target =
    let P : List (List ℕ) → List (List ℕ) → Target = λ segments fields. record { path = 47 ∷ join_with_byte 47 segments; query = joined_unless_none 38 fields } in
    ap (λ (segments : List (List ℕ)). P segments (pieces 38 (unwrap_or (normalized target).query []))) (raw_segments-normalized target)
    ∙ ap (P (raw_segments_of target)) (pieces-normal_query target)

each_right : (P Q : List ℕ → Type 0) (parts : List (List ℕ)) → Each (λ p. Q p × P p) parts → Each P parts
each_right P Q [] each = tt
each_right P Q (p ∷ parts) each = (each.0.1, each_right P Q parts each.1)

only_append : (P : ℕ → Bool) (xs ys : List ℕ) → OnlyOf P xs → OnlyOf P ys → OnlyOf P (xs ++ ys)
only_append P [] ys one two = two
only_append P (x ∷ xs) ys one two = (one.0, only_append P xs ys one.1 two)

only_join : (P : ℕ → Bool) (c : ℕ) (ps : List (List ℕ)) → P c ≡ true → Each (OnlyOf P) ps → OnlyOf P (join_with_byte c ps)
only_join P c [] is each = tt
only_join P c (p ∷ []) is each = each.0
only_join P c (p ∷ q ∷ ps) is each = only_append P p (c ∷ join_with_byte c (q ∷ ps)) each.0 (is, only_join P c (q ∷ ps) is each.1)

-- the text of a normal form says the normal form
pub target_of-normalized : (text : List ℕ) (path query : List ℕ) (self : Target) → path ≡ self.path → query ≡ unwrap_or self.query [] → target_of text ≡ self
    → target_of (spelling (normal_form path query)) ≡ normalized self
target_of-normalized text path query self is_path is_query is =
    let free : OnlyOf (λ b. not (is_question b)) path = let P : List ℕ → Type 0 = OnlyOf (λ b. not (is_question b)) in subst P (ap (λ (t : Target). t.path) is ∙ sym is_path) (front_free text) in
    let each = each_right (OnlyOf (λ b. not (is_question b))) (λ p. (length p == 0) ≡ false) (pieces 47 path)
    (each_kept (OnlyOf (λ b. not (is_question b))) (slice_split (λ b. b == 47) path) (each_split (λ b. not (is_question b)) (λ b. b == 47) path free)) in
    says (normal_form path query).path (normal_form path query).query (refl, only_join (λ b. not (is_question b)) 47 (pieces 47 path) refl each)
    ∙ ap (λ (p : List ℕ). normal_form p query) is_path ∙ ap (normal_form self.path) is_query

-- the parts that are kept beside a text are those of its normal form
pub keeps_parts : (text text' : List ℕ) (segments : List (List ℕ)) (fields : List (List ℕ × List ℕ)) → IsKept text segments fields
    → target_of text' ≡ normalized (target_of text) → IsKept text' segments fields
keeps_parts text text' segments fields kept same = record {
  segments_are = kept.segments_are ∙ sym (ap segments_of same ∙ ap (map decoded) (raw_segments-normalized (target_of text)));
  fields_are = kept.fields_are ∙ sym (ap fields_of same ∙ ap (map field_of) (pieces-normal_query (target_of text)));
}
