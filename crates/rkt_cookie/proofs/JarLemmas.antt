-- A jar's originals, kept by name in a map, as a list of cookies.
use Rattle.std.proofs.Common.{◌≡◌, ℕ, Bool, true, false, cond, List, [], ◌∷◌, ◌++◌, Option, Some, String, string_bytes, map, fold, refl, sym, ap, ◌∙◌, subst, append_assoc, append-nil}
use Rattle.std.specs.declared.cmp.Ordering.{Ordering}
use Rattle.std.specs.declared.cmp.Ordering.TheVariants.{Less, Equal, Greater}
use Rattle.std.specs.Global.{Global}
use Rattle.std.specs.BTreeMap.{insert_entry, is_at}
use Rattle.std.specs.Cmp.Lexicographic.{slice_cmp}
use Rattle.std.specs.List.{AllByRecursion}
use Rattle.std.specs.List.Sorted.{IsStrictlySortedBy}
use Rattle.std.specs.Map.{lookup, keys_of}
use Rattle.std.specs.Ordering.{match_ordering, ordering_reverse, nat_cmp, is_eq}
use Rattle.std.specs.Str.{bytes_eq}
use Rattle.std.specs.String.{string_cmp}
use Rattle.std.proofs.lemmas.List.Elements.{All-nil, All-cons, All-head, All-tail}
use Rattle.std.proofs.lemmas.Slice.Eq.{bytes_eq-Decides}
use Rattle.std.proofs.lemmas.Cmp.{nat_list_cmp_total}
use Rattle.std.proofs.lemmas.Map.Text.{is_eq-slice_cmp}
use Rattle.rkt_cookie.specs.Cookie.{Parts}
use Rattle.rkt_cookie.specs.Jar.{NamesAscend, is_named, cookie_of, with_cookie}
use Rattle.rkt_cookie.specs.JarEntries.{IsByName, cookies_in}

abbrev ByName : String Global × Parts → Type 0
ByName entry = string_bytes entry.0 ≡ entry.1.name

-- a look-up by name
pub cookie_found : (name : List ℕ) (entries : List (String Global × Parts)) → IsByName entries → lookup (is_at (λ k. slice_cmp nat_cmp name (string_bytes k))) entries ≡ cookie_of name (cookies_in entries)
cookie_found name [] h = refl
cookie_found name (e ∷ es) h =
    let same : is_eq (slice_cmp nat_cmp name (string_bytes e.0)) ≡ is_named name e.1
    = is_eq-slice_cmp name (string_bytes e.0) ∙ ap (bytes_eq name) (All-head ByName e es h) in
    ap (λ test. cond test (Some e.1) (lookup (is_at (λ k. slice_cmp nat_cmp name (string_bytes k))) es)) same
    ∙ ap (λ rest. cond (is_named name e.1) (Some e.1) rest) (cookie_found name es (All-tail ByName e es h))

ordered_cookies : (o : Ordering) (a b c : List (String Global × Parts)) → cookies_in (match_ordering o a b c) ≡ match_ordering o (cookies_in a) (cookies_in b) (cookies_in c)
ordered_cookies Less a b c = refl
ordered_cookies Equal a b c = refl
ordered_cookies Greater a b c = refl

-- a cookie that is put in under its name
pub cookie_inserted : (entries : List (String Global × Parts)) (key : String Global) (cookie : Parts) → string_bytes key ≡ cookie.name → IsByName entries → cookies_in (insert_entry string_cmp entries key cookie) ≡ with_cookie (cookies_in entries) cookie
cookie_inserted [] key cookie own h = refl
cookie_inserted (e ∷ es) key cookie own h =
    let rest = cookie_inserted es key cookie own (All-tail ByName e es h) in
    ordered_cookies (string_cmp key e.0) ((key, cookie) ∷ e ∷ es) ((e.0, cookie) ∷ es) (e ∷ insert_entry string_cmp es key cookie)
    ∙ ap (λ other. match_ordering (string_cmp key e.0) (cookie ∷ e.1 ∷ cookies_in es) (cookie ∷ cookies_in es) (e.1 ∷ other)) rest
    ∙ ap (λ name. match_ordering (slice_cmp nat_cmp name (string_bytes e.0)) (cookie ∷ e.1 ∷ cookies_in es) (cookie ∷ cookies_in es) (e.1 ∷ with_cookie (cookies_in es) cookie)) own
    ∙ ap (λ name. match_ordering (slice_cmp nat_cmp cookie.name name) (cookie ∷ e.1 ∷ cookies_in es) (cookie ∷ cookies_in es) (e.1 ∷ with_cookie (cookies_in es) cookie)) (All-head ByName e es h)

ordered_by_name : (o : Ordering) (a b c : List (String Global × Parts)) → IsByName a → (o ≡ Equal → IsByName b) → IsByName c → IsByName (match_ordering o a b c)
ordered_by_name Less a b c ha hb hc = ha
ordered_by_name Equal a b c ha hb hc = hb refl
ordered_by_name Greater a b c ha hb hc = hc

pub same_bytes : (a b : List ℕ) → slice_cmp nat_cmp a b ≡ Equal → a ≡ b
same_bytes a b e = (bytes_eq-Decides a b).0 (sym (is_eq-slice_cmp a b) ∙ ap is_eq e)

pub by_name_inserted : (entries : List (String Global × Parts)) (key : String Global) (cookie : Parts) → string_bytes key ≡ cookie.name → IsByName entries → IsByName (insert_entry string_cmp entries key cookie)
by_name_inserted [] key cookie own h = All-cons ByName (key, cookie) [] own (All-nil ByName)
by_name_inserted (e ∷ es) key cookie own h =
    ordered_by_name (string_cmp key e.0) ((key, cookie) ∷ e ∷ es) ((e.0, cookie) ∷ es) (e ∷ insert_entry string_cmp es key cookie)
    (All-cons ByName (key, cookie) (e ∷ es) own h)
    (λ same. All-cons ByName (e.0, cookie) es (sym (same_bytes (string_bytes key) (string_bytes e.0) same) ∙ own) (All-tail ByName e es h))
    (All-cons ByName e (insert_entry string_cmp es key cookie) (All-head ByName e es h) (by_name_inserted es key cookie own (All-tail ByName e es h)))

-- ---- the order of names

names_above : (key : String Global) (name : List ℕ) (entries : List (String Global × Parts)) → string_bytes key ≡ name → IsByName entries
    → AllByRecursion (λ other. string_cmp key other ≡ Less) (keys_of entries) → AllByRecursion (λ other. slice_cmp nat_cmp name other ≡ Less) (map (λ cookie. cookie.name) (cookies_in entries))
names_above key name [] own h below = tt
names_above key name (e ∷ es) own h below = (
  ap (slice_cmp nat_cmp name) (sym (All-head ByName e es h)) ∙ ap (λ n. slice_cmp nat_cmp n (string_bytes e.0)) (sym own) ∙ below.0,
  names_above key name es own (All-tail ByName e es h) below.1,
)

pub names_ascend : (entries : List (String Global × Parts)) → IsByName entries → IsStrictlySortedBy string_cmp (keys_of entries) → NamesAscend (cookies_in entries)
unfolding IsStrictlySortedBy
names_ascend [] h order = tt
names_ascend (e ∷ es) h order = (
  names_above e.0 e.1.name es (All-head ByName e es h) (All-tail ByName e es h) order.0,
  names_ascend es (All-tail ByName e es h) order.1,
)

name_of_middle : (P : List ℕ → Type 0) (xs : List Parts) (c : Parts) (rest : List Parts) → AllByRecursion P (map (λ cookie. cookie.name) (xs ++ c ∷ rest)) → P c.name
name_of_middle P [] c rest h = h.0
name_of_middle P (x ∷ xs) c rest h = name_of_middle P xs c rest h.1

-- a cookie whose name is behind all others stands last
pub with_last : (xs : List Parts) (c : Parts) (rest : List Parts) → NamesAscend (xs ++ c ∷ rest) → with_cookie xs c ≡ xs ++ c ∷ []
unfolding IsStrictlySortedBy
with_last [] c rest h = refl
with_last (x ∷ xs) c rest h =
    let below : slice_cmp nat_cmp x.name c.name ≡ Less = name_of_middle (λ name. slice_cmp nat_cmp x.name name ≡ Less) xs c rest h.0 in
    let above : slice_cmp nat_cmp c.name x.name ≡ Greater = nat_list_cmp_total.antisymm c.name x.name ∙ ap ordering_reverse below in
    ap (λ o. match_ordering o (c ∷ x ∷ xs) (c ∷ xs) (x ∷ with_cookie xs c)) above ∙ ap (λ l. x ∷ l) (with_last xs c rest h.1)

-- cookies that are put in one after another, names ascending
pub put_in_order : (front rest : List Parts) → NamesAscend (front ++ rest) → fold with_cookie front rest ≡ front ++ rest
put_in_order front [] h = sym (append-nil front)
put_in_order front (c ∷ cs) h =
    ap (λ cookies. fold with_cookie cookies cs) (with_last front c cs h)
    ∙ (put_in_order (front ++ c ∷ []) cs (subst NamesAscend (sym (append_assoc front (c ∷ []) cs)) h) ∙ append_assoc front (c ∷ []) cs)

-- ---- the cookie of a name, once another one is put in

same_test : (p q : Bool) (a b rest : Option Parts) → p ≡ q → cond p a rest ≡ cond p a (cond q b rest)
same_test true q a b rest e = refl
same_test false true a b rest e = absurd (cc e)
same_test false false a b rest e = refl

swapped : (p q : Bool) (a b rest : Option Parts) → (p ≡ true → q ≡ true → ⊥) → cond q b (cond p a rest) ≡ cond p a (cond q b rest)
swapped true true a b rest apart = absurd (apart refl refl)
swapped true false a b rest apart = refl
swapped false true a b rest apart = refl
swapped false false a b rest apart = refl

unequal_names : (name a b : List ℕ) → slice_cmp nat_cmp a b ≡ Greater → bytes_eq name a ≡ true → bytes_eq name b ≡ true → ⊥
unequal_names name a b order one other =
    let same : a ≡ b = sym ((bytes_eq-Decides name a).0 one) ∙ (bytes_eq-Decides name b).0 other in
    let equal : is_eq Greater ≡ true = sym (ap is_eq order) ∙ is_eq-slice_cmp a b ∙ (bytes_eq-Decides a b).1 same in
    absurd (cc equal)

found_at : (name : List ℕ) (cookie other : Parts) (others : List Parts) (order : Ordering) → slice_cmp nat_cmp cookie.name other.name ≡ order
    → cookie_of name (with_cookie others cookie) ≡ cond (is_named name cookie) (Some cookie) (cookie_of name others)
    → cookie_of name (match_ordering order (cookie ∷ other ∷ others) (cookie ∷ others) (other ∷ with_cookie others cookie)) ≡ cond (is_named name cookie) (Some cookie) (cookie_of name (other ∷ others))
found_at name cookie other others Less is behind = refl
found_at name cookie other others Equal is behind =
    same_test (is_named name cookie) (is_named name other) (Some cookie) (Some other) (cookie_of name others) (ap (bytes_eq name) (same_bytes cookie.name other.name is))
found_at name cookie other others Greater is behind =
    ap (λ rest. cond (is_named name other) (Some other) rest) behind
    ∙ swapped (is_named name cookie) (is_named name other) (Some cookie) (Some other) (cookie_of name others) (unequal_names name cookie.name other.name is)

-- it is the one that was put in under its own name, and else the one that it was
pub found_with : (name : List ℕ) (cookies : List Parts) (cookie : Parts) → cookie_of name (with_cookie cookies cookie) ≡ cond (is_named name cookie) (Some cookie) (cookie_of name cookies)
found_with name [] cookie = refl
found_with name (other ∷ others) cookie = found_at name cookie other others (slice_cmp nat_cmp cookie.name other.name) refl (found_with name others cookie)
