-- A name has one limit among limits.
use Rattle.std.proofs.Common.{◌≡◌, ℕ, ◌≤◌, List, ◌++◌, length, take, Option, Some, None, refl, sym, ap, ◌∙◌, subst, inl, inr, arith}
use Rattle.std.specs.Prelude.{All}
use Rattle.std.specs.Map.{lookup}
use Rattle.std.specs.Str.{bytes_eq}
use Rattle.std.proofs.lemmas.List.Elements.{All-get_or}
use Rattle.std.proofs.lemmas.Map.Entries.{place_from_lookup}
use Rattle.std.proofs.lemmas.Option.{slice_get_within, get_or_from_slice_get}
use Rattle.std.proofs.lemmas.Slice.Eq.{bytes_eq-Decides}
use Rattle.std.proofs.Math.Seq.{take-append_seam, take-length}
use Rattle.rkt_data.specs.declared.data_stream.ByteUnit.{ByteUnit}
use Rattle.rkt_config.specs.Limits.{IsFront, IsOfLongest, IsLimitOf, HasOneLimit}

-- what holds of the name of each limit holds of one under which a limit is kept
at_kept : (P : List ℕ → Type 0) (limits : List (List ℕ × ByteUnit)) (name : List ℕ) (limit : ByteUnit) → lookup (bytes_eq name) limits ≡ Some limit → All (λ entry. P entry.0) limits → P name
at_kept P limits name limit found all =
    let place = place_from_lookup (bytes_eq name) limits limit found in
    let entry : List ℕ × ByteUnit = (place.1, limit) in
    let same : name ≡ place.1 = (bytes_eq-Decides name place.1).0 place.3 in
    let here = All-get_or (λ (e : List ℕ × ByteUnit). P e.0) limits place.0 entry (slice_get_within limits place.0 entry place.2) all in
    subst P (ap (λ (e : List ℕ × ByteUnit). e.0) (get_or_from_slice_get limits place.0 entry entry place.2) ∙ sym same) here

-- a front is as many of the first bytes as it has
front_is : (front name : List ℕ) → IsFront front name → take (length front) name ≡ front
front_is front name (inl same) = ap (take (length front)) same ∙ take-length front
front_is front name (inr (rest, more)) = ap (take (length front)) more ∙ take-append_seam front _

no_longer : (limits : List (List ℕ × ByteUnit)) (name : List ℕ) (a b : ByteUnit) (one : IsOfLongest limits name a) (two : IsOfLongest limits name b) → length one.front ≤ length two.front
no_longer limits name a b one two = at_kept (λ front. IsFront front name → length front ≤ length two.front) limits one.front a one.kept two.longest one.is_front

no_front : (limits : List (List ℕ × ByteUnit)) (name : List ℕ) (limit : ByteUnit) → IsLimitOf limits name None → IsOfLongest limits name limit → ⊥
no_front limits name limit none some = at_kept (λ front. ¬ IsFront front name) limits some.front limit some.kept none some.is_front

pub one_limit : HasOneLimit
one_limit limits name None None p q = refl
one_limit limits name None (Some b) p q = absurd (no_front limits name b p q)
one_limit limits name (Some a) None p q = absurd (no_front limits name a q p)
one_limit limits name (Some a) (Some b) p q =
    let long : length p.front ≡ length q.front = omega (arith, no_longer limits name a b p q, no_longer limits name b a q p) in
    let same : p.front ≡ q.front = sym (front_is p.front name p.is_front) ∙ (ap (λ n. take n name) long ∙ front_is q.front name q.is_front) in
    sym p.kept ∙ (ap (λ front. lookup (bytes_eq front) limits) same ∙ q.kept)
