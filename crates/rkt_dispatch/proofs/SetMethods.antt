-- The method that the front of a form sets.
use Rattle.std.specs.Prelude.{◌≡◌, ◌≤◌, ◌&&◌, ℕ, List, Bool, true, false, Option, Some, None, codes, if◌then◌else◌, length, nat_eq, nat_le, option_and_then, unwrap_or}
use Rattle.std.proofs.Common.{ap, refl, subst, sym, ◌∙◌, rules, tests}
use Rattle.std.proofs.lemmas.Str.{IsUtf8-from_is_utf8, is_utf8-from_IsUtf8}
use Rattle.std.specs.Cmp.Lexicographic.{pointwise}
use Rattle.std.specs.List.{after_first, before_first}
use Rattle.std.specs.Str.{IsUtf8, is_utf8}
use Rattle.rkt_http.specs.Method.{method_of_any_case}
use Rattle.rkt_http.specs.declared.method.Method.{Method}
use Rattle.rkt_media.proofs.SpelledOnce.{spells_one_media}
use Rattle.rkt_media.specs.Media.{Media}
use Rattle.rkt_media.specs.MediaText.{SpellsMedia}
use Rattle.rkt_request.specs.Seen.{MaybeReadAs, Seen, first_value}
use Rattle.rkt_uri.specs.Origin.{is_equals}
use Rattle.rkt_dispatch.specs.Overridden.{Overridden, first_field, is_form, is_post, method_in, overridden, set_method}

no_text : (bytes : List ℕ) (b : Bool) → is_utf8 bytes ≡ b → ¬ (IsUtf8 bytes) → b ≡ false
no_text bytes true is faulty = absurd (faulty (IsUtf8-from_is_utf8 bytes is))
no_text bytes false is faulty = refl

choice : (b : Bool) {X : Type 0} (x y : X) → (if b && false then x else y) ≡ y
choice true x y = refl
choice false x y = refl

-- what is no text sets none
pub none_in : (front : List ℕ) → ¬ (IsUtf8 front) → None ≡ method_in front
none_in front faulty = rw (no_text front (is_utf8 front) refl faulty) (sym (choice (nat_le 11 (length front)) (option_and_then set_method (first_field front)) None))

-- what its first field sets
pub set_in : (front : List ℕ) (found : Option Method) → 11 ≤ length front → IsUtf8 front → found ≡ option_and_then set_method (first_field front) → found ≡ method_in front
set_in front found enough text is =
    let long : nat_le 11 (length front) ≡ true = search (rules, tests) in
    subst (λ b. found ≡ (if b && is_utf8 front then option_and_then set_method (first_field front) else None)) (sym long)
    (subst (λ b. found ≡ (if b then option_and_then set_method (first_field front) else None)) (sym (is_utf8-from_IsUtf8 front text)) is)

-- a field of this name
pub sets : (field name value : List ℕ) (found : Option Method) → name ≡ before_first is_equals field → value ≡ after_first is_equals field → pointwise nat_eq name (codes "_method") ≡ true
    → found ≡ method_of_any_case value → found ≡ set_method field
sets field name value found name_is value_is same is =
    subst (λ b. found ≡ (if b then method_of_any_case (after_first is_equals field) else None)) (sym (ap (λ n. pointwise nat_eq n (codes "_method")) (sym name_is) ∙ same)) (is ∙ ap method_of_any_case value_is)

-- a request that is no POST stays as it is
pub not_overridden : {V : Type 0} (first : Seen V) (front : List ℕ) (opened : Seen V) → is_post first.method ≡ false → Overridden first front opened → opened ≡ first
not_overridden first front opened other over =
    over.request ∙ subst (λ b. (if b && is_form over.content_type then record first { method = unwrap_or (method_in front) first.method } else first) ≡ first) (sym other) refl

types_same : (text : Option (List ℕ)) (a b : Option Media) → MaybeReadAs SpellsMedia text a → MaybeReadAs SpellsMedia text b → a ≡ b
types_same None a b one other = one ∙ sym other
types_same (Some text) None None one other = refl
types_same (Some text) None (Some b) one other = absurd (one b other)
types_same (Some text) (Some a) None one other = absurd (other a one)
types_same (Some text) (Some a) (Some b) one other = ap (λ x. Some x) (spells_one_media text a b one other)

-- whatever front is seen, a request is overridden as one request at most
pub one_override : {V : Type 0} (first : Seen V) (front : List ℕ) (a b : Seen V) → Overridden first front a → Overridden first front b → a ≡ b
one_override first front a b one other =
    one.request ∙ (ap (λ t. overridden t front first) (types_same (first_value first.headers (codes "Content-Type")) one.content_type other.content_type one.read other.read) ∙ sym other.request)
