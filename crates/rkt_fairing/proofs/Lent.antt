-- An item that is lent for writing, at a place that was looked up.
use Rattle.std.proofs.Common.{◌≡◌, ◌<◌, ◌∙◌, ◌↔◌, ℕ, List, All, Option, Some, None, IsSome, MutBor, length, option_map, refl, sym, ap, subst}
use Rattle.std.specs.List.{IsItemAtMut, slice_get}
use Rattle.std.specs.Option.{option_and_then}
use Rattle.std.proofs.lemmas.Option.{get_or_from_slice_get, slice_get_past, slice_get_read, slice_get_within}

module _ {X : Type 0} (xs : List X) where
  item_at : (place : ℕ) (r : Option (MutBor X)) → IsItemAtMut xs place r → option_map (λ (x : MutBor X). x.now) r ≡ slice_get xs place
  item_at place None item = sym (slice_get_past xs place item.3)
  item_at place (Some x) item = sym (slice_get_read xs (length xs) place x.now refl item.3.0 (item.3.1 x.now))

  pub lent_is : (looked : Option ℕ) (place : ℕ) (r : Option (MutBor X)) → looked ≡ Some place → IsItemAtMut xs place r → option_map (λ (x : MutBor X). x.now) r ≡ option_and_then (slice_get xs) looked
  lent_is looked place r at item = item_at place r item ∙ sym (ap (option_and_then (slice_get xs)) at)

  -- where all places are those of items, there is one exactly where there is a place
  pub lent_some : (places : List ℕ) (n place : ℕ) (r : Option (MutBor X)) → slice_get places n ≡ Some place → All (λ p. p < length xs) places → IsItemAtMut xs place r → IsSome r ↔ (n < length places)
  lent_some places n place r at below item = (
    λ some. slice_get_within places n place at,
    λ within. item.2 (subst (λ (p : ℕ). p < length xs) (get_or_from_slice_get places n place 0 at) (below n 0 within)),
  )

-- what is there
pub some_item : {X : Type 0} (r : Option X) → IsSome r → (x : X) × (r ≡ Some x)
some_item None is = cc
some_item (Some x) is = (x, refl)
