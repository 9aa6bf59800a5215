-- The pieces that a loop over the parts of a text has kept.
use Rattle.std.proofs.Common.{◌≡◌, ℕ, ◌==◌, Bool, true, false, not, cond, List, [], ◌∷◌, ◌++◌, length, filter, map, refl, sym, ◌∙◌, ap, zero, suc, ◌+◌, ◌<◌, ◌≤◌, drop, take, arith, ◌⊎◌, inl, inr}
use Rattle.std.proofs.lemmas.List.Splits.{slice_split_first}
use Rattle.std.specs.List.{slice_split, onto_first, before_first, after_first, position_or_len}
use Rattle.rkt_uri.specs.Origin.{pieces, is_slash}
use Rattle.std.proofs.lemmas.List.{map-append}
use Rattle.std.proofs.lemmas.List.Elements.{filter-append}
use Rattle.std.specs.Borrow.{Bor}

append_none : {B : Type 0} → (xs : List B) → xs ++ [] ≡ xs
append_none {B = B} [] = refl
append_none {B = B} (x ∷ xs) = ap (λ (ys : List B). x ∷ ys) (append_none xs)

-- those of the parts so far that are not empty, each by f
abbrev pub kept_by : {B : Type 0} → (List ℕ → B) → List (Bor (List ℕ)) → List B
kept_by f parts = map f (filter (λ piece. not (length piece == 0)) (map (λ x. x.now) parts))

pub kept-more : {B : Type 0} (f : List ℕ → B) (parts : List (Bor (List ℕ))) (x : Bor (List ℕ)) → (length x.now == 0) ≡ false
    → kept_by f (parts ++ x ∷ []) ≡ kept_by f parts ++ f x.now ∷ []
kept-more f parts x is = simp (map-append, filter-append, is) refl

pub kept-same : {B : Type 0} (f : List ℕ → B) (parts : List (Bor (List ℕ))) (x : Bor (List ℕ)) → (length x.now == 0) ≡ true
    → kept_by f (parts ++ x ∷ []) ≡ kept_by f parts
kept-same f parts x is = simp (map-append, filter-append, is) (append_none _)

take_all : (xs : List ℕ) → take (length xs) xs ≡ xs
take_all [] = refl
take_all (x ∷ xs) = ap (λ (ys : List ℕ). x ∷ ys) (take_all xs)

place_later : (x : ℕ) (xs : List ℕ) → is_slash x ≡ false → position_or_len is_slash (x ∷ xs) ≡ suc (position_or_len is_slash xs)
place_later x xs is = rw is (omega arith)

place_here : (x : ℕ) (xs : List ℕ) → is_slash x ≡ true → position_or_len is_slash (x ∷ xs) ≡ 0
place_here x xs is = rw is

-- where there is no slash, the text is one piece
one_piece : (xs : List ℕ) → length xs ≤ position_or_len is_slash xs → slice_split is_slash xs ≡ xs ∷ []
one_piece [] none = refl
one_piece (x ∷ xs) none = by_test (is_slash x) refl (one_piece xs)
  where
    by_test : (t : Bool) → is_slash x ≡ t → (length xs ≤ position_or_len is_slash xs → slice_split is_slash xs ≡ xs ∷ [])
        → cond t ([] ∷ slice_split is_slash xs) (onto_first x (slice_split is_slash xs)) ≡ (x ∷ xs) ∷ []
    by_test true test more = absurd (omega (arith, place_here x xs test))
    by_test false test more = ap (onto_first x) (more (omega (arith, place_later x xs test)))

place_within : (xs : List ℕ) → (position_or_len is_slash xs < length xs) ⊎ (length xs ≡ position_or_len is_slash xs)
place_within [] = inr refl
place_within (x ∷ xs) = by_test (is_slash x) refl (place_within xs)
  where
    by_test : (t : Bool) → is_slash x ≡ t → (position_or_len is_slash xs < length xs) ⊎ (length xs ≡ position_or_len is_slash xs)
        → (position_or_len is_slash (x ∷ xs) < length (x ∷ xs)) ⊎ (length (x ∷ xs) ≡ position_or_len is_slash (x ∷ xs))
    by_test true test more = inl (omega (arith, place_here x xs test))
    by_test false test (inl l) = inl (omega (arith, place_later x xs test))
    by_test false test (inr e) = inr (omega (arith, place_later x xs test))

none_after : (xs : List ℕ) (n : ℕ) → length xs ≤ n → drop n xs ≡ []
none_after [] zero h = refl
none_after [] (suc n) h = refl
none_after (x ∷ xs) zero h = absurd (omega arith)
none_after (x ∷ xs) (suc n) h = none_after xs n (omega arith)

-- the pieces are the first, unless it is empty, and those behind the first slash
pub pieces_on : (text : List ℕ) → pieces 47 text
    ≡ filter (λ piece. not (length piece == 0)) (before_first is_slash text ∷ []) ++ pieces 47 (after_first is_slash text)
pieces_on text = elim (place_within text) [
  | inl within ↦ ap (filter (λ piece. not (length piece == 0))) (slice_split_first is_slash text 0 within)
      ∙ filter-append (λ piece. not (length piece == 0)) (before_first is_slash text ∷ []) (slice_split is_slash (after_first is_slash text))
  | inr none ↦ ap (filter (λ piece. not (length piece == 0))) (one_piece text (omega arith)) ∙ whole text none
]
  where
    whole : (text : List ℕ) → length text ≡ position_or_len is_slash text → filter (λ piece. not (length piece == 0)) (text ∷ [])
        ≡ filter (λ piece. not (length piece == 0)) (before_first is_slash text ∷ []) ++ pieces 47 (after_first is_slash text)
    whole text none =
        rw (none_after text (position_or_len is_slash text + 1) (omega arith), ← none, take_all text) (sym (append_none _))

pub pieces-empty : (text : List ℕ) → (length (before_first is_slash text) == 0) ≡ true → pieces 47 (after_first is_slash text) ≡ pieces 47 text
pieces-empty text is = sym (pieces_on text ∙ rw is refl)

pub pieces-first : (text : List ℕ) → (length (before_first is_slash text) == 0) ≡ false
    → pieces 47 text ≡ before_first is_slash text ∷ pieces 47 (after_first is_slash text)
pieces-first text is = pieces_on text ∙ rw is refl

pub pieces_read : (text piece rest : List ℕ) → piece ≡ before_first is_slash text → rest ≡ after_first is_slash text → (length piece == 0) ≡ false
    → pieces 47 text ≡ piece ∷ pieces 47 rest
pieces_read text piece rest is_piece is_rest some =
    rw (is_piece, is_rest) (pieces-first text (sym (ap (λ (p : List ℕ). length p == 0) is_piece) ∙ some))
