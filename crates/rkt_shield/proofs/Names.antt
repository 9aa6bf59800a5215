-- How two names compare in any case: one comes before the other, or they are the same.
use Rattle.std.proofs.Common.{◌≡◌, ℕ, Bool, true, false, List, ◌⊎◌, Ordering, Less, Equal, Greater, is_eq, is_lt, nat_cmp, refl, sym, subst, inl, inr}
use Rattle.std.specs.Ordering.{ordering_reverse, on}
use Rattle.std.specs.Cmp.{IsTotalOrder}
use Rattle.std.specs.Cmp.Lexicographic.{slice_cmp, on_texts}
use Rattle.std.specs.Str.{str_to_ascii_lowercase, str_eq_ignore_ascii_case}
use Rattle.std.proofs.lemmas.Map.Text.{is_eq-slice_cmp}
use Rattle.rkt_shield.specs.Shield.{comes_before}

abbrev pub name_order : List ℕ → List ℕ → Ordering
name_order = on str_to_ascii_lowercase (slice_cmp nat_cmp)

total : IsTotalOrder name_order
total = on_texts str_to_ascii_lowercase

-- the first is before the other, or behind it, or the same
abbrev pub Ranked : Bool → Bool → Bool → Type 0
Ranked before behind same =
    ((before ≡ true) × (behind ≡ false) × (same ≡ false))
    ⊎ (((before ≡ false) × (behind ≡ true) × (same ≡ false))
    ⊎ ((before ≡ false) × (behind ≡ false) × (same ≡ true)))

by_order : (o : Ordering) → Ranked (is_lt (ordering_reverse o)) (is_lt o) (is_eq (ordering_reverse o))
by_order Less = inr (inl (refl, refl, refl))
by_order Equal = inr (inr (refl, refl, refl))
by_order Greater = inl (refl, refl, refl)

pub ranked : (a b : List ℕ) → Ranked (comes_before a b) (comes_before b a) (str_eq_ignore_ascii_case a b)
ranked a b =
    let P : Ordering → Type 0 = λ o. Ranked (is_lt o) (comes_before b a) (is_eq o) in
    let Q : Bool → Type 0 = λ same. Ranked (comes_before a b) (comes_before b a) same in
    subst Q (is_eq-slice_cmp (str_to_ascii_lowercase a) (str_to_ascii_lowercase b)) (subst P (sym (total.antisymm a b)) (by_order (name_order b a)))

less : (o : Ordering) → is_lt o ≡ true → o ≡ Less
less Less e = refl
less Equal e = cc
less Greater e = cc

pub before_trans : (a b c : List ℕ) → comes_before a b ≡ true → comes_before b c ≡ true → comes_before a c ≡ true
before_trans a b c p q =
    let P : Ordering → Type 0 = λ o. is_lt o ≡ true in
    subst P (sym (total.trans a b c (less _ p) (less _ q))) refl

-- what comes behind is not before
pub not_before : (a b : List ℕ) → comes_before a b ≡ true → comes_before b a ≡ false
not_before a b p = elim (ranked a b) [ inl r ↦ r.1 | inr s ↦ elim s [ inl r ↦ cc | inr r ↦ cc ] ]

-- nor is it the same
pub not_same : (a b : List ℕ) → comes_before a b ≡ true → str_eq_ignore_ascii_case a b ≡ false
not_same a b p = elim (ranked a b) [ inl r ↦ r.2 | inr s ↦ elim s [ inl r ↦ cc | inr r ↦ cc ] ]

pub not_same_behind : (a b : List ℕ) → comes_before a b ≡ true → str_eq_ignore_ascii_case b a ≡ false
not_same_behind a b p = elim (ranked b a) [ inl r ↦ r.2 | inr s ↦ elim s [ inl r ↦ r.2 | inr r ↦ cc ] ]
