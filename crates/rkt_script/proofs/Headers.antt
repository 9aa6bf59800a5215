-- The lines that belong to the request before them.
use Rattle.std.proofs.Common.{zero, suc, ◌≡◌, ◌<◌, ◌≤◌, ◌+◌, ◌⊎◌, inl, inr, ◌++◌, ◌&&◌, ℕ, List, [], ◌∷◌, Bool, true, false, get_or, length, take, drop, refl, ap, ◌∙◌, sym, subst, arith}
use Rattle.std.specs.List.{list_all, prefix_len, take_while}
use Rattle.std.proofs.lemmas.List.Sums.{prefix_len-le-length, prefix_len_is, prefix_len_passes}
use Rattle.std.specs.Str.{IsUtf8}
use Rattle.std.proofs.lemmas.Bool.{false≢true}
use Rattle.std.proofs.lemmas.Bool.Decides.{nat_tests}
use Rattle.std.proofs.lemmas.Str.{IsUtf8-from_ascii}
use Rattle.rkt_grammar.specs.Grammar.{is_token_byte}
use Rattle.rkt_script.proofs.Requests.{all_of_word, ascii_of_all}
use Rattle.rkt_script.specs.Script.{IsHeader, is_word}

-- a word is what passes its test in front of a byte that does not
module _ (test : ℕ → Bool) (b : ℕ) (stops : test b ≡ false) (rest : List ℕ) where
  word_len : (word : List ℕ) → list_all test word ≡ true → prefix_len test (word ++ b ∷ rest) ≡ length word
  word_len [] all = rw stops refl
  word_len (c ∷ word) all = by_test (test c) refl all (word_len word)
    where
      by_test : (t : Bool) → test c ≡ t → (t && list_all test word) ≡ true → (list_all test word ≡ true → prefix_len test (word ++ b ∷ rest) ≡ length word) → prefix_len test (c ∷ (word ++ b ∷ rest)) ≡ length (c ∷ word)
      by_test true is both rest_is = rw is (let later = rest_is both in omega (arith, later))
      by_test false is both rest_is = absurd (false≢true both)

  take_word : (word : List ℕ) → take (length word) (word ++ b ∷ rest) ≡ word
  take_word [] = refl
  take_word (c ∷ word) = ap (λ (bs : List ℕ). c ∷ bs) (take_word word)

  drop_word : (word : List ℕ) → drop (length word) (word ++ b ∷ rest) ≡ b ∷ rest
  drop_word [] = refl
  drop_word (c ∷ word) = drop_word word

  first_word : (word : List ℕ) → list_all test word ≡ true → take_while test (word ++ b ∷ rest) ≡ word
  first_word word all = ap (λ (n : ℕ). take n (word ++ b ∷ rest)) (word_len word all) ∙ take_word word

no_colon : is_token_byte 58 ≡ false
no_colon = refl

token_below : (b : ℕ) → is_token_byte b ≡ true → b < 128
token_below b is = grind (arith, nat_tests)

-- a token is text
pub IsUtf8-token : (word : List ℕ) → list_all is_token_byte word ≡ true → IsUtf8 word
IsUtf8-token word all = IsUtf8-from_ascii word (ascii_of_all is_token_byte token_below word all)

-- where a line has a name and a value, its text behind the first two bytes is cut so
pub record CutSo (text name value : List ℕ) : Type 0 where
  pub token : take_while is_token_byte text ≡ name
  pub behind : drop (length name) text ≡ 58 ∷ 32 ∷ value

cut_of : (name value : List ℕ) → list_all is_token_byte name ≡ true → CutSo (name ++ 58 ∷ 32 ∷ value) name value
cut_of name value all = record { token = first_word is_token_byte 58 no_colon (32 ∷ value) name all; behind = drop_word is_token_byte 58 no_colon (32 ∷ value) name }

rest_is : (text rest : List ℕ) → 58 ∷ 32 ∷ text ≡ 58 ∷ 32 ∷ rest → text ≡ rest
rest_is text rest same = cc same

pub header_cut : (text name value : List ℕ) → IsHeader (58 ∷ 32 ∷ text) name value → CutSo text name value
header_cut text name value header =
    subst (λ (t : List ℕ). CutSo t name value) (sym (rest_is text (name ++ 58 ∷ 32 ∷ value) header.spelled)) (cut_of name value (all_of_word is_token_byte name header.token))

-- a line that has a name and a value is cut so
pub record FieldCut (first rest name value : List ℕ) : Type 0 where
  pub name_is : first ≡ name
  pub rest_is : rest ≡ 58 ∷ 32 ∷ value
  pub text : IsUtf8 first
  pub some : 0 < length first

drop_front : (first rest : List ℕ) → drop (length first) (first ++ rest) ≡ rest
drop_front [] rest = refl
drop_front (b ∷ first) rest = drop_front first rest

some_bytes : (test : ℕ → Bool) (word : List ℕ) → is_word test word ≡ true → 0 < length word
some_bytes test [] is = absurd (false≢true is)
some_bytes test (b ∷ word) is = omega arith

pub field_cut : (content text first rest name value : List ℕ) → content ≡ 58 ∷ 32 ∷ text → first ≡ take_while is_token_byte text → text ≡ first ++ rest → IsHeader content name value → FieldCut first rest name value
field_cut content text first rest name value begins token parts header =
    let cut = header_cut text name value (subst (λ (c : List ℕ). IsHeader c name value) begins header) in
    let same : first ≡ name = token ∙ cut.token in
    record {
      name_is = same;
      rest_is = sym (drop_front first rest) ∙ ap (drop (length first)) (sym parts) ∙ ap (λ (word : List ℕ). drop (length word) text) same ∙ cut.behind;
      text = subst IsUtf8 (sym same) (IsUtf8-token name (all_of_word is_token_byte name header.token));
      some = subst (λ (word : List ℕ). 0 < length word) (sym same) (some_bytes is_token_byte name header.token);
    }

both : (a b : Bool) → a ≡ true → b ≡ true → (a && b) ≡ true
both true b one two = two
both false b one two = absurd (false≢true one)

all_take : (test : ℕ → Bool) (text : List ℕ) (n : ℕ) → n ≤ length text → ((k : ℕ) → k < n → test (get_or text k 0) ≡ true) → list_all test (take n text) ≡ true
all_take test [] zero within passes = refl
all_take test [] (suc n) within passes = absurd (omega (arith, within))
all_take test (b ∷ text) zero within passes = refl
all_take test (b ∷ text) (suc n) within passes =
    both (test b) (list_all test (take n text)) (passes 0 (omega arith)) (all_take test text n (omega (arith, within)) (λ k less. passes (suc k) (omega (arith, less))))

run_passes : (text : List ℕ) → list_all is_token_byte (take_while is_token_byte text) ≡ true
run_passes text = all_take is_token_byte text (prefix_len is_token_byte text) (prefix_len-le-length is_token_byte text) (λ k less. prefix_len_passes is_token_byte text k 0 less)

word_of : (test : ℕ → Bool) (word : List ℕ) → 0 < length word → list_all test word ≡ true → is_word test word ≡ true
word_of test [] some all = absurd (omega (arith, some))
word_of test (b ∷ word) some all = grind (arith, nat_tests, all)

-- what was cut so is a name and a value
pub field_read : (content text name rest value : List ℕ) → content ≡ 58 ∷ 32 ∷ text → name ≡ take_while is_token_byte text → text ≡ name ++ rest → rest ≡ 58 ∷ 32 ∷ value → 0 < length name → IsHeader content name value
field_read content text name rest value begins token parts behind some =
    let text_is : text ≡ name ++ 58 ∷ 32 ∷ value = parts ∙ ap (λ (r : List ℕ). name ++ r) behind in
    let all : list_all is_token_byte name ≡ true = subst (λ (word : List ℕ). list_all is_token_byte word ≡ true) (sym token) (run_passes text) in
    record { spelled = begins ∙ ap (λ (t : List ℕ). 58 ∷ 32 ∷ t) text_is; token = word_of is_token_byte name some all }

-- a text that is cut behind its longest token
pub token_run : (text : List ℕ) (n : ℕ) → n ≤ length text → ((k : ℕ) → k < n → is_token_byte (get_or text k 0) ≡ true) → (n < length text → is_token_byte (get_or text n 0) ≡ false) → take n text ≡ take_while is_token_byte text
token_run text n within runs stops = ap (λ (m : ℕ). take m text) (sym (prefix_len_is is_token_byte text n 0 within runs stops))

-- one more byte of a token
pub next_token : (text : List ℕ) (n : ℕ) → ((k : ℕ) → k < n → is_token_byte (get_or text k 0) ≡ true) → is_token_byte (get_or text n 0) ≡ true → (k : ℕ) → k < n + 1 → is_token_byte (get_or text k 0) ≡ true
next_token text n before here k within = by_place (order k n)
  where
    order : (k n : ℕ) → (k < n) ⊎ ((k ≡ n) ⊎ (n < k))
    order k n = grind arith

    by_place : (k < n) ⊎ ((k ≡ n) ⊎ (n < k)) → is_token_byte (get_or text k 0) ≡ true
    by_place (inl less) = before k less
    by_place (inr (inl same)) = subst (λ (i : ℕ). is_token_byte (get_or text i 0) ≡ true) (sym same) here
    by_place (inr (inr more)) = absurd (omega (arith, within, more))
