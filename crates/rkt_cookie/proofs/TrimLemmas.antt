-- Texts that `trim` leaves as they are.
use Rattle.std.proofs.Common.{◌≡◌, ℕ, ◌<◌, ◌≤◌, ◌&&◌, ◌==◌, Bool, true, false, nat_lt, append_assoc, List, [], ◌∷◌, ◌++◌, length, All, refl, ap, ◌∙◌, arith, IsAscii, length-append}
use Rattle.std.specs.Char.{is_whitespace}
use Rattle.std.specs.Str.{trim, trim_start, trim_end, skip_leading_whitespace, drop_trailing_whitespace}
use Rattle.std.proofs.lemmas.Bool.{cond-false, both_ways, and_parts, ltb-true}
use Rattle.std.proofs.lemmas.Bool.Decides.{nat_tests}
use Rattle.std.proofs.lemmas.List.Elements.{All-head, All-tail, All-weaker}
use Rattle.std.proofs.lemmas.Str.{chars-IsAscii, encodes-IsAscii}
use Rattle.std.proofs.lemmas.Str.Ascii.{IsAscii-from_all}

-- a byte that is seen
abbrev pub IsGraphic : ℕ → Type 0
IsGraphic b = (33 ≤ b) × (b ≤ 126)

graphic_kept : (b : ℕ) → IsGraphic b → is_whitespace b ≡ false
graphic_kept b h = grind (arith, nat_tests)

skip_graphic : (b : ℕ) (bs : List ℕ) → IsGraphic b → skip_leading_whitespace (b ∷ bs) ≡ b ∷ bs
skip_graphic b bs h = cond-false _ _ _ (graphic_kept b h)

drop_kept : (b : ℕ) (bs : List ℕ) → is_whitespace b ≡ false → drop_trailing_whitespace (b ∷ bs) ≡ b ∷ drop_trailing_whitespace bs
drop_kept b bs kept = cond-false _ _ _ (ap (λ white. white && length (drop_trailing_whitespace bs) == 0) kept)

and_false : (a : Bool) → (a && false) ≡ false
and_false true = refl
and_false false = refl

drop_before : (b : ℕ) (bs : List ℕ) → 0 < length (drop_trailing_whitespace bs) → drop_trailing_whitespace (b ∷ bs) ≡ b ∷ drop_trailing_whitespace bs
drop_before b bs some =
    let full : (length (drop_trailing_whitespace bs) == 0) ≡ false = grind (arith, nat_tests) in
    cond-false (is_whitespace b && length (drop_trailing_whitespace bs) == 0) [] (b ∷ drop_trailing_whitespace bs)
    (ap (λ none. is_whitespace b && none) full ∙ and_false (is_whitespace b))

drop_graphic : (bs : List ℕ) (last : ℕ) → IsGraphic last → drop_trailing_whitespace (bs ++ last ∷ []) ≡ bs ++ last ∷ []
drop_graphic [] last h = drop_kept last [] (graphic_kept last h)
drop_graphic (b ∷ bs) last h =
    let rest = drop_graphic bs last h in
    drop_before b (bs ++ last ∷ []) (rw rest (omega (arith, length-append bs (last ∷ [])))) ∙ ap (λ l. b ∷ l) rest

drop_all : (bs : List ℕ) → All IsGraphic bs → drop_trailing_whitespace bs ≡ bs
drop_all [] h = refl
drop_all (b ∷ bs) h =
    drop_kept b bs (graphic_kept b (All-head IsGraphic b bs h)) ∙ ap (λ l. b ∷ l) (drop_all bs (All-tail IsGraphic b bs h))

skip_all : (bs : List ℕ) → All IsGraphic bs → skip_leading_whitespace bs ≡ bs
skip_all [] h = refl
skip_all (b ∷ bs) h = skip_graphic b bs (All-head IsGraphic b bs h)

-- a text of ASCII with no white space at its ends
trim_stays : (bs : List ℕ) → IsAscii bs → skip_leading_whitespace bs ≡ bs → drop_trailing_whitespace bs ≡ bs → trim bs ≡ bs
unfolding trim_start trim_end
trim_stays bs ascii front back =
    rw (chars-IsAscii bs ascii, front, encodes-IsAscii bs ascii, chars-IsAscii bs ascii, back, encodes-IsAscii bs ascii)

pub trim_graphic : (bs : List ℕ) → All IsGraphic bs → trim bs ≡ bs
trim_graphic bs h =
    trim_stays bs (IsAscii-from_all bs (All-weaker IsGraphic (λ b. b < 128) (λ b g. omega arith) bs h)) (skip_all bs h) (drop_all bs h)

-- the first byte is seen
abbrev pub begins_graphic : List ℕ → Bool
begins_graphic [] = false
begins_graphic (b ∷ bs) = nat_lt 32 b && nat_lt b 127

skip_front : (xs ys : List ℕ) → begins_graphic xs ≡ true → skip_leading_whitespace (xs ++ ys) ≡ xs ++ ys
skip_front [] ys h = absurd (both_ways false refl h)
skip_front (b ∷ bs) ys h =
    let parts = and_parts _ _ h in
    skip_graphic b (bs ++ ys) (ltb-true _ _ parts.0, omega (arith, ltb-true _ _ parts.1))

pub trim_between : (front mid : List ℕ) (last : ℕ) → begins_graphic front ≡ true → IsGraphic last → IsAscii (front ++ mid ++ last ∷ []) → trim (front ++ mid ++ last ∷ []) ≡ front ++ mid ++ last ∷ []
trim_between front mid last f l ascii =
    trim_stays (front ++ mid ++ last ∷ []) ascii (rw append_assoc (skip_front front (mid ++ last ∷ []) f)) (drop_graphic (front ++ mid) last l)
