-- Where a run of ASCII bytes ends, a text may be cut.
use Rattle.std.proofs.Common.{◌≡◌, ℕ, zero, suc, ◌+◌, ◌<◌, ◌≤◌, Bool, true, false, ◌==◌, ◌||◌, nat_lt, add-one, length-append, ◌++◌, ◌-◌, Some, None, if◌then◌else◌, List, [], ◌∷◌, length, take, drop, get_or, refl, sym, ◌∙◌, ap, subst, arith, lit<, codes, inl, inr, ◌⊎◌}
use Rattle.std.proofs.lemmas.Bool.{false≢true}
use Rattle.std.proofs.lemmas.Bool.Decides.{nat_tests}
use Rattle.std.proofs.lemmas.Str.{IsCharBoundary-start, IsCharBoundary-end, IsCharBoundary-after_ascii}
use Rattle.std.specs.Str.{IsUtf8, IsCharBoundary}
use Rattle.std.specs.List.{list_any}
use Rattle.rkt_media.specs.Runs.{run, behind_run}
use Rattle.rkt_grammar.specs.Grammar.{is_alphanumeric, is_token_byte, is_field_value_byte}
use Rattle.rkt_media.specs.ByteClass.{is_of}
use Rattle.rkt_media.specs.MediaRestLaws.{head_same, tail_same}
use Rattle.rkt_media.specs.declared.byte_run.ByteClass.{ByteClass}
use Rattle.rkt_media.specs.declared.byte_run.ByteClass.TheVariants.{Token, Blank, Gap}
use Rattle.rkt_media.specs.MediaText.{is_blank, behind_quoted, quote_step, is_quoted_byte, ValueThen, Exactly}
use Rattle.std.proofs.Math.Seq.{drop-cons}

either : (s t : Bool) → (s || t) ≡ true → (s ≡ true) ⊎ (t ≡ true)
either true t e = inl refl
either false t e = inr e

letter_ascii : (b : ℕ) → is_alphanumeric b ≡ true → b < 128
letter_ascii b e = grind (arith, nat_tests, e)

equal_ascii : (c b : ℕ) → c < 128 → (c == b) ≡ true → b < 128
equal_ascii c b small e = grind (arith, nat_tests, e, small)

pub blank_ascii : (b : ℕ) → is_blank b ≡ true → b < 128
blank_ascii b e = grind (arith, nat_tests, e)

-- each of these bytes is ASCII
Small : List ℕ → Type 0
Small [] = Unit {0}
Small (c ∷ cs) = (c < 128) × Small cs

some_ascii : (b : ℕ) (cs : List ℕ) → Small cs → list_any (λ c. c == b) cs ≡ true → b < 128
unfolding Small
some_ascii b [] small e = absurd (false≢true e)
some_ascii b (c ∷ cs) small e = elim (either (c == b) (list_any (λ c. c == b) cs) e) [ inl here ↦ equal_ascii c b small.0 here | inr later ↦ some_ascii b cs small.1 later ]

pub token_ascii : (b : ℕ) → is_token_byte b ≡ true → b < 128
unfolding Small
token_ascii b e = elim (either (is_alphanumeric b) (list_any (λ c. c == b) (codes "!#$%&'*+-.^_`|~")) e) [
  | inl letter ↦ letter_ascii b letter
  | inr mark ↦ some_ascii b (codes "!#$%&'*+-.^_`|~") (lit< tt, (lit< tt, (lit< tt, (lit< tt, (lit< tt, (lit< tt, (lit< tt, (lit< tt, (lit< tt, (lit< tt, (lit< tt, (lit< tt, (lit< tt, (lit< tt, (lit< tt, tt))))))))))))))) mark
]

-- a run of a class is ASCII
pub class_ascii : (class : ByteClass) (b : ℕ) → is_of class b ≡ true → b < 128
class_ascii Token b e = token_ascii b e
class_ascii Blank b e = blank_ascii b e
class_ascii Gap b e = grind (arith, nat_tests, e)

run_at : (test : ℕ → Bool) (xs : List ℕ) (n : ℕ) → n < length (run test xs) → test (get_or xs n 0) ≡ true
run_at test [] n h = absurd (omega arith)
run_at test (x ∷ xs) n h = by_test (test x) n refl h (λ n. run_at test xs n)
  where
    by_test : (t : Bool) (n : ℕ) → test x ≡ t → n < length (if t then x ∷ run test xs else []) → ((n : ℕ) → n < length (run test xs) → test (get_or xs n 0) ≡ true) → test (get_or (x ∷ xs) n 0) ≡ true
    by_test true zero is h more = is
    by_test true (suc n) is h more = more n (omega arith)
    by_test false n is h more = absurd (omega arith)

run_within : (test : ℕ → Bool) (xs : List ℕ) → length (run test xs) ≤ length xs
run_within test [] = omega arith
run_within test (x ∷ xs) = by_test (test x) (run_within test xs)
  where
    by_test : (t : Bool) → length (run test xs) ≤ length xs → length (if t then x ∷ run test xs else []) ≤ length (x ∷ xs)
    by_test true more = omega arith
    by_test false more = omega arith

pub boundary-run : (test : ℕ → Bool) → ((b : ℕ) → test b ≡ true → b < 128) → (xs : List ℕ) (n : ℕ) → IsUtf8 xs → n ≡ length (run test xs) → IsCharBoundary xs n
boundary-run test ascii xs zero utf8 is = IsCharBoundary-start xs utf8
boundary-run test ascii xs (suc n) utf8 is =
    let below : n < length (run test xs) = omega arith in
    let within : n < length xs = omega (arith, run_within test xs) in
    let P : ℕ → Type 0 = IsCharBoundary xs in
    let next : n + 1 ≡ suc n = omega arith in
    subst P next (IsCharBoundary-after_ascii xs n utf8 within (ascii (get_or xs n 0) (run_at test xs n below)))

pub take-run : (test : ℕ → Bool) (xs : List ℕ) → take (length (run test xs)) xs ≡ run test xs
take-run test [] = refl
take-run test (x ∷ xs) = by_test (test x) (take-run test xs)
  where
    by_test : (t : Bool) → take (length (run test xs)) xs ≡ run test xs → take (length (if t then x ∷ run test xs else [])) (x ∷ xs) ≡ (if t then x ∷ run test xs else [])
    by_test true more = ap (λ (ys : List ℕ). x ∷ ys) more
    by_test false more = refl

pub drop-run : (test : ℕ → Bool) (xs : List ℕ) → drop (length (run test xs)) xs ≡ behind_run test xs
drop-run test [] = refl
drop-run test (x ∷ xs) = by_test (test x) (drop-run test xs)
  where
    by_test : (t : Bool) → drop (length (run test xs)) xs ≡ behind_run test xs → drop (length (if t then x ∷ run test xs else [])) (x ∷ xs) ≡ (if t then behind_run test xs else x ∷ xs)
    by_test true more = more
    by_test false more = refl

pub drop_at : (xs : List ℕ) (i : ℕ) → i < length xs → drop i xs ≡ get_or xs i 0 ∷ drop (i + 1) xs
drop_at xs i within = drop-cons xs i 0 within ∙ ap (λ (n : ℕ). get_or xs i 0 ∷ drop n xs) (sym (add-one i))

-- a quoted string goes on behind a byte that does not close it
pub quoted_on : (e e' : Bool) (b : ℕ) (bs more : List ℕ) → quote_step e b ≡ Some e' → behind_quoted e (b ∷ bs) ≡ Some more → behind_quoted e' bs ≡ Some more
quoted_on true e' b bs more step h = by_test (is_field_value_byte b) (cc step) h
  where
    by_test : (t : Bool) → false ≡ e' → (if t then behind_quoted false bs else None) ≡ Some more → behind_quoted e' bs ≡ Some more
    by_test true is h = let P : Bool → Type 0 = λ x. behind_quoted x bs ≡ Some more in subst P is h
    by_test false is h = absurd (cc h)
quoted_on false e' b bs more step h = by_test (b == 34) (b == 92) (is_quoted_byte b) step h
  where
    by_test : (t u v : Bool) → (if t then None else Some u) ≡ Some e' → (if t then Some bs else (if u then behind_quoted true bs else (if v then behind_quoted false bs else None))) ≡ Some more
        → behind_quoted e' bs ≡ Some more
    by_test true u v step h = absurd (cc step)
    by_test false true v step h = let P : Bool → Type 0 = λ x. behind_quoted x bs ≡ Some more in let is : true ≡ e' = cc step in subst P is h
    by_test false false true step h = let P : Bool → Type 0 = λ x. behind_quoted x bs ≡ Some more in let is : false ≡ e' = cc step in subst P is h
    by_test false false false step h = absurd (cc h)

-- and ends behind the byte that does
pub quoted_closes : (e : Bool) (b : ℕ) (bs more : List ℕ) → quote_step e b ≡ None → behind_quoted e (b ∷ bs) ≡ Some more → (b ≡ 34) × (more ≡ bs)
quoted_closes true b bs more step h = absurd (cc step)
quoted_closes false b bs more step h = by_test (b == 34) refl (b == 92) (is_quoted_byte b) step h
  where
    by_test : (t : Bool) → (b == 34) ≡ t → (u v : Bool) → (if t then None else Some u) ≡ None → (if t then Some bs else (if u then behind_quoted true bs else (if v then behind_quoted false bs else None))) ≡ Some more
        → (b ≡ 34) × (more ≡ bs)
    by_test true is u v step h = (grind (arith, nat_tests, is), cc h)
    by_test false is u v step h = absurd (cc step)

-- a step closes only at the mark
pub closing_mark : (e : Bool) (b : ℕ) → quote_step e b ≡ None → b ≡ 34
closing_mark true b step = absurd (cc step)
closing_mark false b step = by_test (b == 34) refl (b == 92) step
  where
    by_test : (t : Bool) → (b == 34) ≡ t → (u : Bool) → (if t then None else Some u) ≡ None → b ≡ 34
    by_test true is u step = grind (arith, nat_tests, is)
    by_test false is u step = absurd (cc step)

-- a quoted string may be cut behind its closing mark
pub boundary-quoted : (inside : List ℕ) (n : ℕ) → n ≤ length inside → (n < length inside → (0 < n) × (get_or inside (n - 1) 0 ≡ 34)) → IsUtf8 (34 ∷ inside)
    → IsCharBoundary (34 ∷ inside) (n + 1)
boundary-quoted inside n within closes utf8 = by_case (nat_lt n (length inside)) refl
  where
    by_case : (t : Bool) → nat_lt n (length inside) ≡ t → IsCharBoundary (34 ∷ inside) (n + 1)
    by_case true is =
        let below : n < length inside = grind (arith, nat_tests, is) in
        let mark = closes below in
        IsCharBoundary-after_ascii (34 ∷ inside) n utf8 (omega arith) (at_mark n mark.0 mark.1)
      where
        at_mark : (n : ℕ) → 0 < n → get_or inside (n - 1) 0 ≡ 34 → get_or (34 ∷ inside) n 0 < 128
        at_mark zero some is = absurd (omega arith)
        at_mark (suc m) some is = let same : suc m - 1 ≡ m = omega arith in let P : ℕ → Type 0 = λ k. k < 128 in
            subst P (sym (sym (ap (λ (k : ℕ). get_or inside k 0) same) ∙ is)) (lit< tt)
    by_case false is =
        let whole : length inside ≤ n = grind (arith, nat_tests, is) in
        let P : ℕ → Type 0 = IsCharBoundary (34 ∷ inside) in
        let end : length (34 ∷ inside) ≡ n + 1 = omega arith in
        subst P end (IsCharBoundary-end (34 ∷ inside))

pub cancel : (xs ys zs : List ℕ) → xs ++ zs ≡ ys ++ zs → xs ≡ ys
cancel [] [] zs e = refl
cancel [] (y ∷ ys) zs e = let long : length zs ≡ length (y ∷ (ys ++ zs)) = ap length e in absurd (omega (arith, length-append ys zs))
cancel (x ∷ xs) [] zs e = let long : length (x ∷ (xs ++ zs)) ≡ length zs = ap length e in absurd (omega (arith, length-append xs zs))
cancel (x ∷ xs) (y ∷ ys) zs e =
    let head : x ≡ y = cc e in let tail : xs ++ zs ≡ ys ++ zs = cc e in
    ap (λ (k : ℕ). k ∷ xs) head ∙ ap (λ (ks : List ℕ). y ∷ ks) (cancel xs ys zs tail)

take_drop : (n : ℕ) (xs : List ℕ) → take n xs ++ drop n xs ≡ xs
take_drop zero [] = refl
take_drop zero (x ∷ xs) = refl
take_drop (suc n) [] = refl
take_drop (suc n) (x ∷ xs) = ap (λ (ys : List ℕ). x ∷ ys) (take_drop n xs)

no_mark_token : is_token_byte 34 ≡ false
no_mark_token = refl

-- a value that is quoted, cut behind its closing mark
pub value_quoted : (inside value more : List ℕ) (n : ℕ) → ((m : List ℕ) → behind_quoted false inside ≡ Some m → m ≡ drop n inside)
    → ValueThen (34 ∷ inside) value (Exactly more) → (take (n + 1) (34 ∷ inside) ≡ value) × (drop (n + 1) (34 ∷ inside) ≡ more)
value_quoted inside value more n ends (inl token) = absurd (false≢true (sym no_mark_token ∙ token.starts))
value_quoted inside value more n ends (inr quoted) =
    let left : quoted.more ≡ drop n inside = ends quoted.more (ap (behind_quoted false) (tail_same _ _ _ _ quoted.opened) ∙ quoted.closed) in
    let split : (34 ∷ take n inside) ++ drop n inside ≡ value ++ drop n inside =
    ap (λ (xs : List ℕ). 34 ∷ xs) (take_drop n inside) ∙ quoted.is ∙ ap (λ (xs : List ℕ). value ++ xs) left in
    rw (add-one n) (cancel (34 ∷ take n inside) value (drop n inside) split, sym left ∙ quoted.rest)

-- a value that is a token, cut where the token ends
pub value_token : (bytes value more : List ℕ) (first : ℕ) (inside : List ℕ) (n : ℕ) → bytes ≡ first ∷ inside → ¬ (first ≡ 34) → n ≡ length (run is_token_byte bytes)
    → ValueThen bytes value (Exactly more) → (take n bytes ≡ value) × (drop n bytes ≡ more)
value_token bytes value more first inside n is other len (inl token) = (
  ap (λ (k : ℕ). take k bytes) len ∙ take-run is_token_byte bytes ∙ sym token.is,
  ap (λ (k : ℕ). drop k bytes) len ∙ drop-run is_token_byte bytes ∙ token.rest,
)
value_token bytes value more first inside n is other len (inr quoted) = absurd (other (head_same _ _ _ _ (sym is ∙ quoted.opened)))

pub length-behind_run : (test : ℕ → Bool) (text : List ℕ) → length (behind_run test text) ≤ length text
length-behind_run test [] = omega arith
length-behind_run test (b ∷ bs) = by_test (test b) (length-behind_run test bs)
  where
    by_test : (t : Bool) → length (behind_run test bs) ≤ length bs → length (if t then behind_run test bs else b ∷ bs) ≤ length (b ∷ bs)
    by_test true more = omega arith
    by_test false more = omega arith
