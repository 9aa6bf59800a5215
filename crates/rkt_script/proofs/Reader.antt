-- A reader that goes by the first byte of a line finds all that the line may make of the requests before it: so each line makes
-- one list of them at most.
use Rattle.std.proofs.Common.{◌≡◌, ◌==◌, ◌++◌, ℕ, List, [], ◌∷◌, true, false, if◌then◌else◌, codes, drop, length, refl, ap, ◌∙◌, sym, subst, arith}
use Rattle.std.specs.List.{after_first, before_first, list_all, take_while}
use Rattle.std.proofs.lemmas.Bool.{false≢true}
use Rattle.std.proofs.lemmas.Bool.Decides.{nat_tests}
use Rattle.std.proofs.lemmas.Slice.Eq.{bytes_eq-Decides}
use Rattle.rkt_grammar.specs.Grammar.{is_token_byte}
use Rattle.rkt_script.proofs.Headers.{header_cut}
use Rattle.rkt_script.proofs.Requests.{all_of_word, first_of_both, is_space, request_cut}
use Rattle.rkt_script.specs.Script.{Adds, IsHeader, IsPiece, IsRequest, asking, is_capital, is_shutdown, is_skipped, with_header, with_piece}
use Rattle.rkt_script.specs.declared.script.ScriptRequest.{ScriptRequest}

-- the last of the requests changed so, where there is one
with_last : (ScriptRequest → ScriptRequest) → List ScriptRequest → List ScriptRequest
with_last change [] = []
with_last change (request ∷ []) = change request ∷ []
with_last change (request ∷ other ∷ others) = request ∷ with_last change (other ∷ others)

with_last_end : (change : ScriptRequest → ScriptRequest) (before : List ScriptRequest) (last : ScriptRequest) → with_last change (before ++ last ∷ []) ≡ before ++ change last ∷ []
unfolding with_last
with_last_end change [] last = refl
with_last_end change (request ∷ []) last = refl
with_last_end change (request ∷ other ∷ before) last = ap (λ (rs : List ScriptRequest). request ∷ rs) (with_last_end change (other ∷ before) last)

-- the name and the value of a header, by the token behind its first colon
abbrev name_in : List ℕ → List ℕ
name_in content = take_while is_token_byte (drop 2 content)

abbrev value_in : List ℕ → List ℕ
value_in content = drop 2 (drop (length (name_in content)) (drop 2 content))

abbrev read_so : List ScriptRequest → List ℕ → List ScriptRequest
read_so requests [] = requests
read_so requests (b ∷ bs) =
    if b == 35 then requests else (
    if b == 58 then with_last (with_header (name_in (b ∷ bs)) (value_in (b ∷ bs))) requests else (
    if b == 61 then with_last (with_piece (drop 2 (b ∷ bs))) requests else (
    if b == 115 then [] else requests ++ asking (before_first is_space (b ∷ bs)) (after_first is_space (b ∷ bs)) ∷ [])))

skips : (requests : List ScriptRequest) (content : List ℕ) → is_skipped content ≡ true → requests ≡ read_so requests content
skips requests [] is = refl
skips requests (b ∷ bs) is = rw is refl

capital_is_no : (b mark : ℕ) → is_capital b ≡ true → is_capital mark ≡ false → (b == mark) ≡ false
capital_is_no b mark is other = grind (arith, nat_tests)

asks_from : (requests : List ScriptRequest) (b : ℕ) (bs : List ℕ) → is_capital b ≡ true
    → read_so requests (b ∷ bs) ≡ requests ++ asking (before_first is_space (b ∷ bs)) (after_first is_space (b ∷ bs)) ∷ []
asks_from requests b bs is = rw (capital_is_no b 35 is refl, capital_is_no b 58 is refl, capital_is_no b 61 is refl, capital_is_no b 115 is refl) refl

asks_begun : (requests : List ScriptRequest) (method target : List ℕ) → IsRequest (method ++ 32 ∷ target) method target
    → read_so requests (method ++ 32 ∷ target) ≡ requests ++ asking (before_first is_space (method ++ 32 ∷ target)) (after_first is_space (method ++ 32 ∷ target)) ∷ []
asks_begun requests [] target is = absurd (false≢true is.letters)
asks_begun requests (b ∷ method) target is =
    asks_from requests b (method ++ 32 ∷ target) (first_of_both (is_capital b) (list_all is_capital method) (all_of_word is_capital (b ∷ method) is.letters))

asks : (requests : List ScriptRequest) (content method target : List ℕ) → IsRequest content method target → requests ++ asking method target ∷ [] ≡ read_so requests content
asks requests content method target is =
    let cut = request_cut content method target is in
    let begun = asks_begun requests method target (subst (λ (c : List ℕ). IsRequest c method target) is.spelled is) in
    let same : read_so requests content ≡ requests ++ asking (before_first is_space content) (after_first is_space content) ∷ [] =
    subst (λ (c : List ℕ). read_so requests c ≡ requests ++ asking (before_first is_space c) (after_first is_space c) ∷ []) (sym is.spelled) begun in
    sym (same ∙ rw (cut.0, cut.1) refl)

names : (requests : List ScriptRequest) (text name value : List ℕ) → IsHeader (58 ∷ 32 ∷ text) name value → with_last (with_header name value) requests ≡ read_so requests (58 ∷ 32 ∷ text)
names requests text name value is =
    let cut = header_cut text name value is in
    rw (cut.token, cut.behind) refl

headed : (before : List ScriptRequest) (last : ScriptRequest) (content name value : List ℕ) → IsHeader content name value
    → before ++ with_header name value last ∷ [] ≡ read_so (before ++ last ∷ []) content
headed before last content name value is =
    sym (with_last_end (with_header name value) before last)
    ∙ subst (λ (c : List ℕ). with_last (with_header name value) (before ++ last ∷ []) ≡ read_so (before ++ last ∷ []) c) (sym is.spelled)
    (names (before ++ last ∷ []) (name ++ 58 ∷ 32 ∷ value) name value (subst (λ (c : List ℕ). IsHeader c name value) is.spelled is))

pieced : (before : List ScriptRequest) (last : ScriptRequest) (content bytes : List ℕ) → IsPiece content bytes → before ++ with_piece bytes last ∷ [] ≡ read_so (before ++ last ∷ []) content
pieced before last content bytes is =
    sym (with_last_end (with_piece bytes) before last) ∙ subst (λ (c : List ℕ). with_last (with_piece bytes) (before ++ last ∷ []) ≡ read_so (before ++ last ∷ []) c) (sym is) refl

pub shutdown_word : (content : List ℕ) → is_shutdown content ≡ true → content ≡ codes "shutdown"
shutdown_word content is = grind (arith, bytes_eq-Decides, is)

left_none : (requests : List ScriptRequest) (content : List ℕ) → is_shutdown content ≡ true → [] ≡ read_so requests content
left_none requests content is = rw (shutdown_word content is) refl

read_as : (requests : List ScriptRequest) (content : List ℕ) (after : List ScriptRequest) → Adds requests content after → after ≡ read_so requests content
read_as requests content after (Adds.skipped is) = skips requests content is
read_as requests content after (Adds.request method target is) = asks requests content method target is
read_as requests content after (Adds.header before last name value is) = headed before last content name value is
read_as requests content after (Adds.piece before last bytes is) = pieced before last content bytes is
read_as requests content after (Adds.shutdown is) = left_none requests content is

-- a line makes one list of the requests before it
pub adds_once : (requests : List ScriptRequest) (content : List ℕ) (one other : List ScriptRequest) → Adds requests content one → Adds requests content other → other ≡ one
adds_once requests content one other is is' = read_as requests content other is' ∙ sym (read_as requests content one is)
