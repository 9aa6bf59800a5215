-- A flash cookie's text and what it says.
use Rattle.std.proofs.Common.{◌≡◌, ℕ, zero, suc, ◌+◌, ◌<◌, ◌^◌, ◌==◌, Bool, true, false, cond, List, [], ◌∷◌, ◌++◌, length, take, drop, get_or, Option, Some, None, IsSome, IfSome, MatchOption, ◌↔◌, Result, Ok, Err, is_ok, is_some, option_map, IsUtf8, IsCharBoundary, decimal, refl, sym, ap, ◌∙◌, subst, arith, length-append, length-take-le, append_assoc, codes}
use Rattle.std.proofs.Math.ListN.{get_or-append}
use Rattle.std.proofs.Math.Seq.{get_or-append_seam, take-append_seam, drop-append_seam, drop-append-add}
use denote.Ref.{Bor}
use Rattle.std.proofs.lemmas.Bool.{false≢true}
use Rattle.std.proofs.lemmas.Bool.Decides.{nat_tests}
use Rattle.std.proofs.lemmas.Fmt.{decimal_is_IsNumeral, decimal_nonempty}
use Rattle.std.proofs.lemmas.List.{take-append-drop}
use Rattle.std.proofs.lemmas.List.Sums.{passes_at_first, position_or_len_is, split_at_first}
use Rattle.std.proofs.lemmas.Str.{IsCharBoundary-at_seam}
use Rattle.std.proofs.lemmas.Str.Parse.{digit_at}
use Rattle.std.specs.List.{before_first, after_first, position_or_len}
use Rattle.std.specs.Prelude.{unwrap_or}
use Rattle.std.specs.Result.{result_ok}
use Rattle.std.specs.Str.Parse.{AllDigits, ParsesUnsigned, without_leading_plus}
use Rattle.rkt_cookie.specs.Cookie.{Parts}
use Rattle.rkt_cookie.specs.Jar.{JarParts, cookie_of}
use Rattle.rkt_request.specs.Seen.{MaybeReadAs, ReadAs}
use Rattle.rkt_response.specs.Flash.{Flashed, IsFlashOf, SaysFlash, SpellsUsize, flash_name, flash_text}

abbrev pub is_colon : ℕ → Bool
is_colon b = b == 58

-- ---- the number before the colon

digit_uncut : (ds : List ℕ) (k : ℕ) → AllDigits 10 ds → k < length ds → is_colon (get_or ds k 0) ≡ false
digit_uncut ds k all within = let range = digit_at ds k all within in grind (arith, nat_tests, range)

number_uncut : (number : List ℕ) (n k : ℕ) → SpellsUsize number n → k < length number → is_colon (get_or number k 0) ≡ false
number_uncut [] n k h within = absurd (omega arith)
number_uncut (c ∷ cs) n k h within = by (c == 43) refl k within h.numeral.1
  where
    by : (plus : Bool) → (c == 43) ≡ plus → (k : ℕ) → k < length (c ∷ cs) → AllDigits 10 (drop (cond plus 1 0) (c ∷ cs)) → is_colon (get_or (c ∷ cs) k 0) ≡ false
    by true is zero within all = grind (arith, nat_tests, is)
    by true is (suc k) within all = digit_uncut cs k all (omega arith)
    by false is k within all = digit_uncut (c ∷ cs) k all within

-- where such a text is cut
pub record CutAt (text number rest : List ℕ) : Type 0 where
  pub before : before_first is_colon text ≡ number
  pub after : after_first is_colon text ≡ rest
  pub there : position_or_len is_colon text < length text

cut_at : (number rest : List ℕ) (n : ℕ) → SpellsUsize number n → CutAt (number ++ 58 ∷ rest) number rest
cut_at number rest n h =
    let long : length (number ++ 58 ∷ rest) ≡ length number + suc (length rest) = length-append number (58 ∷ rest) in
    let seam = get_or-append_seam number 58 rest 0 in
    let place : position_or_len is_colon (number ++ 58 ∷ rest) ≡ length number =
    position_or_len_is is_colon (number ++ 58 ∷ rest) (length number) 0 (omega (arith, long))
    (λ k within. ap is_colon (get_or-append number (58 ∷ rest) 0 k within) ∙ number_uncut number n k h within)
    (λ within. ap is_colon seam)
    in
    record {
      before = ap (λ (i : ℕ). take i (number ++ 58 ∷ rest)) place ∙ take-append_seam number (58 ∷ rest);
      after = ap (λ (i : ℕ). drop (i + 1) (number ++ 58 ∷ rest)) place ∙ drop-append-add number (58 ∷ rest) 1;
      there = omega (arith, long, place);
    }

in_parts : (number kind message : List ℕ) → number ++ codes ":" ++ kind ++ message ≡ number ++ 58 ∷ (kind ++ message)
in_parts number kind message = append_assoc (number ++ 58 ∷ []) kind message ∙ append_assoc number (58 ∷ []) (kind ++ message)

pub says_cut : (text : List ℕ) (flashed : Flashed) (h : SaysFlash text flashed) → CutAt text h.number (flashed.kind ++ flashed.message)
says_cut text flashed h =
    let grouped : text ≡ h.number ++ 58 ∷ (flashed.kind ++ flashed.message) = h.parts ∙ in_parts h.number flashed.kind flashed.message in
    subst (λ t. CutAt t h.number (flashed.kind ++ flashed.message)) (sym grouped) (cut_at h.number (flashed.kind ++ flashed.message) (length flashed.kind) h.spelled)

-- ---- what a text says is one thing

pub says_length : (text : List ℕ) (flashed : Flashed) → SaysFlash text flashed → SpellsUsize (before_first is_colon text) (length flashed.kind)
says_length text flashed h = subst (λ number. SpellsUsize number (length flashed.kind)) (sym (says_cut text flashed h).before) h.spelled

same_flashed : (f g : Flashed) → f.kind ≡ g.kind → f.message ≡ g.message → f ≡ g
same_flashed f g kind message = ap (λ k. record { kind = k; message = f.message }) kind ∙ ap (λ m. record { kind = g.kind; message = m }) message

pub says_one : (text : List ℕ) (f g : Flashed) → SaysFlash text f → SaysFlash text g → f ≡ g
says_one text f g hf hg =
    let same : length f.kind ≡ length g.kind = sym (says_length text f hf).value ∙ (says_length text g hg).value in
    let rest : f.kind ++ f.message ≡ g.kind ++ g.message = sym (says_cut text f hf).after ∙ (says_cut text g hg).after in
    same_flashed f g
    (sym (take-append_seam f.kind f.message) ∙ ap (take (length f.kind)) rest ∙ ap (λ (n : ℕ). take n (g.kind ++ g.message)) same ∙ take-append_seam g.kind g.message)
    (sym (drop-append_seam f.kind f.message) ∙ ap (drop (length f.kind)) rest ∙ ap (λ (n : ℕ). drop n (g.kind ++ g.message)) same ∙ drop-append_seam g.kind g.message)

-- ---- what is written says what it was written of

decimal_plain : (n : ℕ) → n < 2 ^ 64 → without_leading_plus (decimal n) ≡ decimal n
decimal_plain n small =
    let first = digit_at (decimal n) 0 (decimal_is_IsNumeral n small).0.1 (decimal_nonempty n small) in
    let no_plus : (get_or (decimal n) 0 0 == 43) ≡ false = grind (arith, nat_tests, first) in
    ap (λ plus. drop (cond plus 1 0) (decimal n)) no_plus

decimal_spelled : (n : ℕ) → n < 2 ^ 64 → SpellsUsize (decimal n) n
decimal_spelled n small =
    let numeral = decimal_is_IsNumeral n small in
    let plain = decimal_plain n small in
    record { numeral = rw plain numeral.0; value = rw plain numeral.1; held = small }

pub text_says : (flashed : Flashed) → length flashed.kind < 2 ^ 64 → IsUtf8 flashed.message → SaysFlash (flash_text flashed) flashed
text_says flashed small text =
    record {
      number = decimal (length flashed.kind);
      parts = refl;
      spelled = decimal_spelled (length flashed.kind) small;
      boundary = IsCharBoundary-at_seam (flashed.kind ++ flashed.message) flashed.kind flashed.message refl text;
    }

-- ---- a text that is cut and parsed as std does

pub spelled_parses : {E : Type 0} (number : List ℕ) (n : ℕ) (r : Result ℕ E) → SpellsUsize number n → ParsesUnsigned 64 10 number r → is_ok r ≡ true
spelled_parses number n (Ok m) h parsed = refl
spelled_parses number n (Err e) h parsed = absurd (parsed (h.numeral, omega (arith, h.value, h.held)))

parsed_spells : {E : Type 0} (number : List ℕ) (n : ℕ) (r : Result ℕ E) → ParsesUnsigned 64 10 number r → Some n ≡ result_ok r → SpellsUsize number n
parsed_spells number n (Ok m) parsed is =
    let value = ap (λ o. unwrap_or o 0) is ∙ parsed.1 in
    record { numeral = parsed.0.0; value = sym value; held = omega (arith, value, parsed.0.1) }
parsed_spells number n (Err e) parsed is = absurd (false≢true (sym (ap is_some is)))

-- what is cut at its first colon and says something has the number in front
pub says_number : (text number rest : List ℕ) (flashed : Flashed) → CutAt text number rest → SaysFlash text flashed → SpellsUsize number (length flashed.kind)
says_number text number rest flashed cut says =
    subst (λ t. SpellsUsize t (length flashed.kind)) cut.before (says_length text flashed says)

parts_say : (text number rest : List ℕ) (n : ℕ) → CutAt text number rest → SpellsUsize number n → IsCharBoundary rest n → SaysFlash text (record { kind = take n rest; message = drop n rest })
parts_say text number rest n cut spelled boundary =
    let colon : get_or text (position_or_len is_colon text) 0 ≡ 58 = by_test (passes_at_first is_colon text 0 cut.there) in
    let whole : take n rest ++ drop n rest ≡ rest = take-append-drop n rest in
    let long : length (take n rest) ≡ n = length-take-le n rest boundary.0 in
    record {
      number = number;
      parts =
          split_at_first is_colon text 0 cut.there ∙ ap (λ b. before_first is_colon text ++ b ∷ after_first is_colon text) colon
          ∙ ap (λ l. l ++ 58 ∷ after_first is_colon text) cut.before ∙ ap (λ l. number ++ 58 ∷ l) (cut.after ∙ sym whole)
          ∙ sym (in_parts number (take n rest) (drop n rest));
      spelled = rw long spelled;
      boundary = rw (whole, long) boundary;
    }
  where
    by_test : {b : ℕ} → is_colon b ≡ true → b ≡ 58
    by_test is = grind (arith, nat_tests, is)

-- the number that was parsed cuts what is behind the colon into kind and message, where it can be cut there
pub cut_says : {E : Type 0} (text number rest : List ℕ) (n : ℕ) (parsed : Result ℕ E) (r : Option (Bor (List ℕ) × Bor (List ℕ))) → CutAt text number rest
    → ParsesUnsigned 64 10 number parsed → Some n ≡ result_ok parsed → (IsSome r ↔ IsCharBoundary rest n)
    → IfSome r (λ x. x.0.now ≡ take n rest) → IfSome r (λ x. x.1.now ≡ drop n rest)
    → MatchOption r ((flashed : Flashed) → ¬ SaysFlash text flashed) (λ parts. SaysFlash text (record { kind = parts.0.now; message = parts.1.now }))
cut_says text number rest n parsed None cut parses is some front back = λ flashed says.
    let value : n ≡ length flashed.kind = sym (parsed_spells number n parsed parses is).value ∙ (says_number text number rest flashed cut says).value in
    let behind : flashed.kind ++ flashed.message ≡ rest = sym (says_cut text flashed says).after ∙ cut.after in
    let boundary : IsCharBoundary rest n = rw (value, ← behind) says.boundary in
    false≢true (some.1 boundary)
cut_says text number rest n parsed (Some parts) cut parses is some front back =
    rw (front, back) (parts_say text number rest n cut (parsed_spells number n parsed parses is) (some.0 refl))

-- ---- what a jar has

pub flash_there : (jar : JarParts) (cookie : Parts) (found : Option Flashed) → Some cookie ≡ cookie_of flash_name jar.originals → ReadAs SaysFlash cookie.value found → IsFlashOf jar found
flash_there jar cookie found is reads = subst (λ o. MaybeReadAs SaysFlash (option_map (λ c. c.value) o) found) is reads
