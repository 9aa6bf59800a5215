-- A request is text, and is cut at its first space.
use Rattle.std.proofs.Common.{zero, suc, ◌≡◌, ◌<◌, ◌+◌, ◌==◌, ℕ, List, [], ◌∷◌, ◌++◌, Bool, true, false, ◌&&◌, length, not, take, drop, add-one, refl, ap, ◌∙◌, sym, subst, arith}
use Rattle.std.specs.List.{list_all, before_first, after_first, position_or_len}
use Rattle.std.specs.Str.{IsAscii, IsUtf8}
use Rattle.std.proofs.lemmas.Bool.{false≢true}
use Rattle.std.proofs.lemmas.Bool.Decides.{nat_tests}
use Rattle.std.proofs.lemmas.Str.{IsAscii-append, IsUtf8-from_ascii}
use Rattle.rkt_script.specs.Script.{is_capital, is_visible, is_word, IsRequest}

abbrev pub is_space : ℕ → Bool
is_space b = b == 32

-- both tests pass
pub first_of_both : (a b : Bool) → (a && b) ≡ true → a ≡ true
first_of_both true b e = refl
first_of_both false b e = e

second_of_both : (a b : Bool) → (a && b) ≡ true → b ≡ true
second_of_both true b e = e
second_of_both false b e = absurd (false≢true e)

-- all bytes of a word pass its test
pub all_of_word : (test : ℕ → Bool) (word : List ℕ) → is_word test word ≡ true → list_all test word ≡ true
all_of_word test word is = second_of_both (not (length word == 0)) (list_all test word) is

pub ascii_of_all : (test : ℕ → Bool) → ((b : ℕ) → test b ≡ true → b < 128) → (bs : List ℕ) → list_all test bs ≡ true → IsAscii bs
ascii_of_all test below [] all i = omega arith
ascii_of_all test below (b ∷ bs) all zero = below b (first_of_both (test b) (list_all test bs) all)
ascii_of_all test below (b ∷ bs) all (suc i) = ascii_of_all test below bs (second_of_both (test b) (list_all test bs) all) i

capital_below : (b : ℕ) → is_capital b ≡ true → b < 128
capital_below b is = grind (arith, nat_tests)

visible_below : (b : ℕ) → is_visible b ≡ true → b < 128
visible_below b is = grind (arith, nat_tests)

space_below : (b : ℕ) → is_space b ≡ true → b < 128
space_below b is = grind (arith, nat_tests)

-- visible characters are text
pub IsUtf8-visible : (word : List ℕ) → list_all is_visible word ≡ true → IsUtf8 word
IsUtf8-visible word all = IsUtf8-from_ascii word (ascii_of_all is_visible visible_below word all)

pub IsUtf8-request : (content method target : List ℕ) → IsRequest content method target → IsUtf8 content
IsUtf8-request content method target request =
    let letters = ascii_of_all is_capital capital_below method (all_of_word is_capital method request.letters) in
    let visible = ascii_of_all is_visible visible_below target (all_of_word is_visible target request.visible) in
    let space = ascii_of_all is_space space_below (32 ∷ []) refl in
    IsUtf8-from_ascii content (subst IsAscii (sym request.spelled) (IsAscii-append method (32 ∷ target) letters (IsAscii-append (32 ∷ []) target space visible)))

no_space : (b : ℕ) → is_capital b ≡ true → (b == 32) ≡ false
no_space b is = grind (arith, nat_tests)

position_more : (b : ℕ) (bs : List ℕ) → (b == 32) ≡ false → position_or_len is_space (b ∷ bs) ≡ suc (position_or_len is_space bs)
position_more b bs is = rw is (omega arith)

before_more : (b : ℕ) (bs : List ℕ) → (b == 32) ≡ false → before_first is_space (b ∷ bs) ≡ b ∷ before_first is_space bs
before_more b bs is = ap (λ (n : ℕ). take n (b ∷ bs)) (position_more b bs is)

after_more : (b : ℕ) (bs : List ℕ) → (b == 32) ≡ false → after_first is_space (b ∷ bs) ≡ after_first is_space bs
after_more b bs is =
    ap (λ (n : ℕ). drop (n + 1) (b ∷ bs)) (position_more b bs is) ∙ rw (add-one (suc (position_or_len is_space bs)), add-one (position_or_len is_space bs)) refl

cut_word : (word rest : List ℕ) → list_all is_capital word ≡ true → (before_first is_space (word ++ 32 ∷ rest) ≡ word) × (after_first is_space (word ++ 32 ∷ rest) ≡ rest)
cut_word [] rest all = (refl, refl)
cut_word (b ∷ word) rest all =
    let other = no_space b (first_of_both (is_capital b) (list_all is_capital word) all) in
    let later = cut_word word rest (second_of_both (is_capital b) (list_all is_capital word) all) in
    (before_more b (word ++ 32 ∷ rest) other ∙ ap (λ (w : List ℕ). b ∷ w) later.0, after_more b (word ++ 32 ∷ rest) other ∙ later.1)

-- the words of a request stand before and behind its first space
pub request_cut : (content method target : List ℕ) → IsRequest content method target → (before_first is_space content ≡ method) × (after_first is_space content ≡ target)
request_cut content method target request =
    let cut = cut_word method target (all_of_word is_capital method request.letters) in
    (ap (before_first is_space) request.spelled ∙ cut.0, ap (after_first is_space) request.spelled ∙ cut.1)

space_within : (word rest : List ℕ) → position_or_len is_space (word ++ 32 ∷ rest) < length (word ++ 32 ∷ rest)
space_within [] rest = omega arith
space_within (b ∷ word) rest = by_test (b == 32) refl (space_within word rest)
  where
    by_test : (t : Bool) → (b == 32) ≡ t → position_or_len is_space (word ++ 32 ∷ rest) < length (word ++ 32 ∷ rest)
        → position_or_len is_space (b ∷ (word ++ 32 ∷ rest)) < length (b ∷ (word ++ 32 ∷ rest))
    by_test true is later = rw is (omega arith)
    by_test false is later = rw (position_more b (word ++ 32 ∷ rest) is) (omega (arith, later))

-- a request has a space
pub request_within : (content method target : List ℕ) → IsRequest content method target → position_or_len is_space content < length content
request_within content method target request = subst (λ (t : List ℕ). position_or_len is_space t < length t) (sym request.spelled) (space_within method target)
