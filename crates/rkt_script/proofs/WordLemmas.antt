-- The words of a command line, one by one.
use Rattle.std.proofs.Common.{◌≡◌, ◌≤◌, ◌<◌, ◌==◌, ◌+◌, ◌-◌, ◌&&◌, ℕ, List, [], ◌∷◌, Bool, true, false, codes, drop, get_or, length, map, not, take, refl, ap, sym, subst, ◌∙◌, arith}
use Rattle.std.proofs.Math.Seq.{take-length}
use Rattle.std.specs.List.{before_first, list_any, position_or_len}
use Rattle.std.proofs.lemmas.Bool.{false≢true}
use Rattle.std.proofs.lemmas.Bool.Decides.{nat_tests}
use Rattle.rkt_script.specs.Words.{Commands, Settings, Table, is_equals, is_setting, with_setting}

-- where a byte stands nowhere, none passes the test
pub none_of : (test : ℕ → Bool) (word : List ℕ) → position_or_len test word ≡ length word → list_any test word ≡ false
none_of test [] is = refl
none_of test (b ∷ word) is = by_test (test b) refl (none_of test word)
  where
    by_test : (t : Bool) → test b ≡ t → (position_or_len test word ≡ length word → list_any test word ≡ false) → list_any test (b ∷ word) ≡ false
    by_test true found rest = let first : position_or_len test (b ∷ word) ≡ 0 = rw found refl in absurd (omega (arith, first, is))
    by_test false other rest =
        let more : position_or_len test (b ∷ word) ≡ 1 + position_or_len test word = rw other refl in
        rw other (rest (omega (arith, more, is)))

both_pass : (a b : Bool) → (a && b) ≡ true → (a ≡ true) × (b ≡ true)
both_pass true b is = (refl, is)
both_pass false b is = absurd (false≢true is)

-- a word without an equals sign is no setting
pub no_equals : (word : List ℕ) → list_any is_equals word ≡ false → is_setting word ≡ true → ⊥
no_equals word none is = false≢true (sym none ∙ (both_pass (list_any is_equals word) _ is).0)

-- nor is one with no name
pub no_name : (word : List ℕ) → length (before_first is_equals word) ≡ 0 → is_setting word ≡ true → ⊥
no_name word none is =
    let some : not (length (before_first is_equals word) == 0) ≡ true = (both_pass (list_any is_equals word) _ is).1 in
    grind (arith, nat_tests, none, some)

-- the first words of a list, and what is behind them
pub first_word : {A : Type 0} (bytes : A → List ℕ) (words : List A) (word : A) → 1 ≤ length words → word ≡ get_or words 0 word → map bytes words ≡ bytes word ∷ map bytes (take (length words - 1) (drop 1 words))
first_word bytes [] word some is = absurd (omega (arith, some))
first_word bytes (w ∷ words) word some is =
    let count : length (w ∷ words) - 1 ≡ length words = omega arith in
    let rest : take (length (w ∷ words) - 1) words ≡ words = ap (λ (n : ℕ). take n words) count ∙ take-length words in
    ap (λ v. bytes v ∷ map bytes words) (sym is) ∙ ap (λ vs. bytes word ∷ map bytes vs) (sym rest)

pub two_words : {A : Type 0} (bytes : A → List ℕ) (words : List A) (one other : A) → 2 ≤ length words → one ≡ get_or words 0 one → other ≡ get_or words 1 other
    → map bytes words ≡ bytes one ∷ bytes other ∷ map bytes (take (length words - 2) (drop 2 words))
two_words bytes [] one other some is is' = absurd (omega (arith, some))
two_words bytes (w ∷ []) one other some is is' = absurd (omega (arith, some))
two_words bytes (w ∷ v ∷ words) one other some is is' =
    let count : length (w ∷ v ∷ words) - 2 ≡ length words = omega arith in
    let rest : take (length (w ∷ v ∷ words) - 2) words ≡ words = ap (λ (n : ℕ). take n words) count ∙ take-length words in
    ap (λ a. bytes a ∷ bytes v ∷ map bytes words) (sym is) ∙ ap (λ b. bytes one ∷ bytes b ∷ map bytes words) (sym is') ∙ ap (λ ws. bytes one ∷ bytes other ∷ map bytes ws) (sym rest)

-- one step of what words set
pub step : (words : List (List ℕ)) (flag word : List ℕ) (more : List (List ℕ)) (before after : Table) → words ≡ flag ∷ word ∷ more → flag ≡ codes "--config" → is_setting word ≡ true
    → Settings more (with_setting before word) after → Settings words before after
step words flag word more before after are flag_is setting rest = rw are (flag_is, setting, rest)

pub back : (words : List (List ℕ)) (flag word : List ℕ) (more : List (List ℕ)) (before after : Table) → words ≡ flag ∷ word ∷ more → Settings words before after
    → (flag ≡ codes "--config") × (is_setting word ≡ true) × Settings more (with_setting before word) after
back words flag word more before after are settings = subst (λ (ws : List (List ℕ)). Settings ws before after) are settings

-- fewer than two words, but some, set nothing
pub single : (words : List (List ℕ)) (before after : Table) → length words < 2 → 0 < length words → Settings words before after → ⊥
single [] before after few some settings = absurd (omega (arith, some))
single (w ∷ []) before after few some settings = settings
single (w ∷ v ∷ words) before after few some settings = absurd (omega (arith, few))

pub none_left : (words : List (List ℕ)) (before : Table) → length words ≡ 0 → Settings words before before
none_left [] before none = refl
none_left (w ∷ words) before none = absurd (omega (arith, none))

-- words set one table
settings_once : (words : List (List ℕ)) (before one other : Table) → Settings words before one → Settings words before other → other ≡ one
settings_once [] before one other is is' = is' ∙ sym is
settings_once (flag ∷ []) before one other is is' = absurd is
settings_once (flag ∷ word ∷ words) before one other is is' = settings_once words (with_setting before word) one other is.2 is'.2

pub commands_once : (words : List (List ℕ)) (one other : Table) → Commands words one → Commands words other → other ≡ one
commands_once [] one other is is' = absurd is
commands_once (word ∷ words) one other is is' = settings_once words [] one other is.1 is'.1
