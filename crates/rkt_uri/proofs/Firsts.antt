-- What stands before and behind the first byte that passes a test.
use Rattle.std.proofs.Common.{◌≡◌, ℕ, suc, ◌+◌, ◌==◌, Bool, true, false, not, cond, nat_lt, List, [], ◌∷◌, ◌++◌, length, take, drop, refl, ◌∙◌, ap, arith, add-one, Some, None, if◌then◌else◌}
use Rattle.std.proofs.lemmas.Bool.{false≢true}
use Rattle.std.proofs.lemmas.Bool.Decides.{nat_tests}
use Rattle.std.specs.List.{before_first, after_first, position_or_len}
use Rattle.rkt_grammar.specs.Grammar.{OnlyOf, has_byte, behind_first}
use Rattle.rkt_grammar.specs.ByteLaws.{equal, clash}

-- no byte passes the test
abbrev pub Free : (ℕ → Bool) → List ℕ → Type 0
Free test text = OnlyOf (λ b. not (test b)) text

of_not : (t : Bool) → not t ≡ true → t ≡ false
of_not true e = absurd (false≢true e)
of_not false e = refl

lt_suc : (m n : ℕ) → nat_lt (suc m) (suc n) ≡ nat_lt m n
lt_suc m n = grind (arith, nat_tests)

zero_lt_suc : (n : ℕ) → nat_lt 0 (suc n) ≡ true
zero_lt_suc n = grind (arith, nat_tests)

one_more : (n : ℕ) → 1 + n ≡ suc n
one_more n = omega arith

position_past : (test : ℕ → Bool) (b : ℕ) (bs : List ℕ) → test b ≡ false → position_or_len test (b ∷ bs) ≡ suc (position_or_len test bs)
position_past test b bs is = ap (λ (t : Bool). cond (not t) (1 + position_or_len test bs) 0) is ∙ one_more (position_or_len test bs)

position_here : (test : ℕ → Bool) (b : ℕ) (bs : List ℕ) → test b ≡ true → position_or_len test (b ∷ bs) ≡ 0
position_here test b bs is = ap (λ (t : Bool). cond (not t) (1 + position_or_len test bs) 0) is

pub before_past : (test : ℕ → Bool) (b : ℕ) (bs : List ℕ) → test b ≡ false → before_first test (b ∷ bs) ≡ b ∷ before_first test bs
before_past test b bs is = ap (λ (n : ℕ). take n (b ∷ bs)) (position_past test b bs is)

drop_past : (b : ℕ) (bs : List ℕ) (n : ℕ) → drop (suc n + 1) (b ∷ bs) ≡ drop (n + 1) bs
drop_past b bs n = rw (add-one (suc n), add-one n) refl

after_past : (test : ℕ → Bool) (b : ℕ) (bs : List ℕ) → test b ≡ false → after_first test (b ∷ bs) ≡ after_first test bs
after_past test b bs is = ap (λ (n : ℕ). drop (n + 1) (b ∷ bs)) (position_past test b bs is) ∙ drop_past b bs (position_or_len test bs)

has_past : (test : ℕ → Bool) (b : ℕ) (bs : List ℕ) → test b ≡ false → has_byte test (b ∷ bs) ≡ has_byte test bs
has_past test b bs is = ap (λ (n : ℕ). nat_lt n (length (b ∷ bs))) (position_past test b bs is) ∙ lt_suc (position_or_len test bs) (length bs)

-- a text without such a byte

pub before_free : (test : ℕ → Bool) (text : List ℕ) → Free test text → before_first test text ≡ text
before_free test [] free = refl
before_free test (b ∷ bs) free = before_past test b bs (of_not (test b) free.0) ∙ ap (λ (cs : List ℕ). b ∷ cs) (before_free test bs free.1)

pub before_append : (test : ℕ → Bool) (front rest : List ℕ) → Free test front → before_first test (front ++ rest) ≡ front ++ before_first test rest
before_append test [] rest free = refl
before_append test (b ∷ bs) rest free =
    before_past test b (bs ++ rest) (of_not (test b) free.0) ∙ ap (λ (cs : List ℕ). b ∷ cs) (before_append test bs rest free.1)

pub has_free : (test : ℕ → Bool) (text : List ℕ) → Free test text → has_byte test text ≡ false
has_free test [] free = refl
has_free test (b ∷ bs) free = has_past test b bs (of_not (test b) free.0) ∙ has_free test bs free.1

-- a text with one behind such a text

pub before_stop : (test : ℕ → Bool) (front : List ℕ) (c : ℕ) (rest : List ℕ) → Free test front → test c ≡ true → before_first test (front ++ c ∷ rest) ≡ front
before_stop test [] c rest free is = ap (λ (n : ℕ). take n (c ∷ rest)) (position_here test c rest is)
before_stop test (b ∷ bs) c rest free is =
    before_past test b (bs ++ c ∷ rest) (of_not (test b) free.0) ∙ ap (λ (cs : List ℕ). b ∷ cs) (before_stop test bs c rest free.1 is)

pub after_stop : (test : ℕ → Bool) (front : List ℕ) (c : ℕ) (rest : List ℕ) → Free test front → test c ≡ true → after_first test (front ++ c ∷ rest) ≡ rest
after_stop test [] c rest free is = ap (λ (n : ℕ). drop (n + 1) (c ∷ rest)) (position_here test c rest is)
after_stop test (b ∷ bs) c rest free is = after_past test b (bs ++ c ∷ rest) (of_not (test b) free.0) ∙ after_stop test bs c rest free.1 is

pub has_stop : (test : ℕ → Bool) (front : List ℕ) (c : ℕ) (rest : List ℕ) → Free test front → test c ≡ true → has_byte test (front ++ c ∷ rest) ≡ true
has_stop test [] c rest free is = ap (λ (n : ℕ). nat_lt n (length (c ∷ rest))) (position_here test c rest is) ∙ zero_lt_suc (length rest)
has_stop test (b ∷ bs) c rest free is = has_past test b (bs ++ c ∷ rest) (of_not (test b) free.0) ∙ has_stop test bs c rest free.1 is

pub behind_stop : (test : ℕ → Bool) (front : List ℕ) (c : ℕ) (rest : List ℕ) → Free test front → test c ≡ true → behind_first test (front ++ c ∷ rest) ≡ Some rest
behind_stop test front c rest free is =
    ap (λ (t : Bool). if t then Some (after_first test (front ++ c ∷ rest)) else None) (has_stop test front c rest free is)
    ∙ ap (λ (x : List ℕ). Some x) (after_stop test front c rest free is)

-- bytes of one kind

pub only_append : (test : ℕ → Bool) (xs ys : List ℕ) → OnlyOf test xs → OnlyOf test ys → OnlyOf test (xs ++ ys)
only_append test [] ys h k = k
only_append test (x ∷ xs) ys h k = (h.0, only_append test xs ys h.1 k)

-- a byte that is none of a kind is in no text of it
pub apart : (test : ℕ → Bool) (c : ℕ) → test c ≡ false → (text : List ℕ) → OnlyOf test text → Free (λ b. b == c) text
apart test c fails [] only = tt
apart test c fails (b ∷ bs) only = (by_test (b == c) refl only.0, apart test c fails bs only.1)
  where
    by_test : (t : Bool) → (b == c) ≡ t → test b ≡ true → not (b == c) ≡ true
    by_test true is passes = absurd (clash test b c (equal b c is) fails passes)
    by_test false is passes = ap not is
