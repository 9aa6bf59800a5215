-- A delta, made from the last change to the first.
use Rattle.std.proofs.Common.{◌≡◌, ℕ, ◌||◌, Bool, true, false, List, [], ◌∷◌, ◌++◌, Option, Some, None, map, reverse, option_to_list, refl, sym, ap, ◌∙◌, append-nil}
use Rattle.std.specs.declared.cmp.Ordering.{Ordering}
use Rattle.std.specs.declared.cmp.Ordering.TheVariants.{Less, Equal, Greater}
use Rattle.std.specs.Borrow.{Bor}
use Rattle.std.specs.BTreeMap.{is_at}
use Rattle.std.specs.BTreeSet.{insert_key}
use Rattle.std.specs.Cmp.Lexicographic.{slice_cmp}
use Rattle.std.specs.List.{flat_map, list_any}
use Rattle.std.specs.Ordering.{match_ordering, nat_cmp, is_eq}
use Rattle.std.specs.Str.{bytes_eq}
use Rattle.std.proofs.lemmas.Bool.{cond-true, cond-false}
use Rattle.std.proofs.lemmas.List.{map-append, reverse-append}
use Rattle.std.proofs.lemmas.Map.Text.{is_eq-slice_cmp}
use Rattle.rkt_cookie.proofs.JarLemmas.{same_bytes}
use Rattle.rkt_cookie.specs.declared.change.Change.{Change}
use Rattle.rkt_cookie.specs.Cookie.{Parts}
use Rattle.rkt_cookie.specs.Jar.{is_named, last_changes, sent}

-- the changes that were walked over, in the order of the log
abbrev pub walked : List (Bor Change) → List Change
walked yielded = reverse (map (λ change. change.now) yielded)

-- what the walk keeps: the cookies so far, from the last to the first, and the names so far
pub record IsWalked (originals : List Parts) (moment : ℕ) (yielded : List (Bor Change)) (cookies : List Parts) (names : List (Bor (List ℕ))) : Type 0 where
  pub cookies_are : reverse cookies ≡ flat_map (sent originals moment) (last_changes (walked yielded))
  pub names_are : (name : List ℕ) → list_any (is_at (λ k. slice_cmp nat_cmp name k.now)) names ≡ list_any (λ change. is_named name change.cookie) (walked yielded)

walked_more : (yielded : List (Bor Change)) (change : Bor Change) → walked (yielded ++ change ∷ []) ≡ change.now ∷ walked yielded
walked_more yielded change = simp (map-append, reverse-append)

-- ---- the names

again : (a r : Bool) → (a || r) ≡ (a || (a || r))
again true r = refl
again false r = refl

swapped : (a k r : Bool) → (a || (k || r)) ≡ (k || (a || r))
swapped true true r = refl
swapped true false r = refl
swapped false k r = refl

at_place : {A : Type 0} (p : A → Bool) (key x : A) (xs inserted : List A) (o : Ordering) → (o ≡ Equal → p key ≡ p x) → list_any p inserted ≡ (p key || list_any p xs)
    → list_any p (match_ordering o (key ∷ x ∷ xs) (x ∷ xs) (x ∷ inserted)) ≡ (p key || (p x || list_any p xs))
at_place p key x xs inserted Less same rest = refl
at_place p key x xs inserted Equal same rest = again (p x) (list_any p xs) ∙ ap (λ b. b || (p x || list_any p xs)) (sym (same refl))
at_place p key x xs inserted Greater same rest = ap (λ b. p x || b) rest ∙ swapped (p x) (p key) (list_any p xs)

abbrev text_order : Bor (List ℕ) → Bor (List ℕ) → Ordering
text_order a b = slice_cmp nat_cmp a.now b.now

abbrev is_text : List ℕ → Bor (List ℕ) → Bool
is_text name k = is_at (λ k. slice_cmp nat_cmp name k.now) k

names_inserted : (name : List ℕ) (names : List (Bor (List ℕ))) (key : Bor (List ℕ)) → list_any (is_text name) (insert_key text_order names key) ≡ (is_text name key || list_any (is_text name) names)
names_inserted name [] key = refl
names_inserted name (x ∷ xs) key =
    at_place (is_text name) key x xs (insert_key text_order xs key) (text_order key x)
    (λ equal. ap (λ k. is_eq (slice_cmp nat_cmp name k)) (same_bytes key.now x.now equal)) (names_inserted name xs key)

-- ---- one more change

reverse_more : (cookies : List Parts) (more : Option Parts) → reverse (cookies ++ option_to_list more) ≡ option_to_list more ++ reverse cookies
reverse_more cookies (Some cookie) = simp reverse-append
reverse_more cookies None = ap reverse (append-nil cookies)

names_more : (originals : List Parts) (moment : ℕ) (yielded : List (Bor Change)) (cookies : List Parts) (names : List (Bor (List ℕ))) (change : Bor Change) (key : Bor (List ℕ)) →
    IsWalked originals moment yielded cookies names → key.now ≡ change.now.cookie.name →
    (name : List ℕ) → list_any (is_text name) (insert_key text_order names key) ≡ list_any (λ c. is_named name c.cookie) (walked (yielded ++ change ∷ []))
names_more originals moment yielded cookies names change key h own name =
    let here : is_text name key ≡ is_named name change.now.cookie = is_eq-slice_cmp name key.now ∙ ap (bytes_eq name) own in
    names_inserted name names key ∙ ap (λ b. b || list_any (is_text name) names) here
    ∙ ap (λ b. is_named name change.now.cookie || b) (h.names_are name)
    ∙ ap (list_any (λ c. is_named name c.cookie)) (sym (walked_more yielded change))

-- a change of a name that no later change has
pub walked_new : (originals : List Parts) (moment : ℕ) (yielded : List (Bor Change)) (cookies : List Parts) (names : List (Bor (List ℕ))) (change : Bor Change) (key : Bor (List ℕ)) (more : Option Parts) →
    IsWalked originals moment yielded cookies names → key.now ≡ change.now.cookie.name → list_any (is_text key.now) names ≡ false
    → option_to_list more ≡ sent originals moment change.now
    → IsWalked originals moment (yielded ++ change ∷ []) (cookies ++ option_to_list more) (insert_key text_order names key)
walked_new originals moment yielded cookies names change key more h own fresh is =
    let w = walked yielded in
    let none : list_any (λ later. is_named change.now.cookie.name later.cookie) w ≡ false
    = sym (h.names_are change.now.cookie.name) ∙ ap (λ name. list_any (is_text name) names) (sym own) ∙ fresh in
    let last : last_changes (change.now ∷ w) ≡ change.now ∷ last_changes w = cond-false _ _ _ none in
    record {
      cookies_are = reverse_more cookies more ∙ ap (λ l. l ++ reverse cookies) is ∙ ap (λ l. sent originals moment change.now ++ l) h.cookies_are
          ∙ ap (flat_map (sent originals moment)) (sym last) ∙ ap (λ l. flat_map (sent originals moment) (last_changes l)) (sym (walked_more yielded change));
      names_are = names_more originals moment yielded cookies names change key h own;
    }

-- a change of a name that a later change has
pub walked_old : (originals : List Parts) (moment : ℕ) (yielded : List (Bor Change)) (cookies : List Parts) (names : List (Bor (List ℕ))) (change : Bor Change) (key : Bor (List ℕ)) →
    IsWalked originals moment yielded cookies names → key.now ≡ change.now.cookie.name → list_any (is_text key.now) names ≡ true
    → IsWalked originals moment (yielded ++ change ∷ []) cookies (insert_key text_order names key)
walked_old originals moment yielded cookies names change key h own seen =
    let w = walked yielded in
    let some : list_any (λ later. is_named change.now.cookie.name later.cookie) w ≡ true
    = sym (h.names_are change.now.cookie.name) ∙ ap (λ name. list_any (is_text name) names) (sym own) ∙ seen in
    let last : last_changes (change.now ∷ w) ≡ last_changes w = cond-true _ _ _ some in
    record {
      cookies_are = h.cookies_are ∙ ap (flat_map (sent originals moment)) (sym last) ∙ ap (λ l. flat_map (sent originals moment) (last_changes l)) (sym (walked_more yielded change));
      names_are = names_more originals moment yielded cookies names change key h own;
    }
