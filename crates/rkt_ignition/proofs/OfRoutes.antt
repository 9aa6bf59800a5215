-- The sentries of all routes, as one list.
use Rattle.std.proofs.Common.{◌≡◌, ◌≤◌, ◌<◌, ◌+◌, ◌-◌, ◌∷◌, ◌++◌, ◌∙◌, ℕ, suc, zero, [], List, Option, None, Some, Bor, ap, arith, drop, get_or, length, refl, subst, sym}
use Rattle.std.specs.List.{slice_get}
use Rattle.std.specs.Option.{option_copied}
use Rattle.std.specs.Prelude.{IfSome}
use Rattle.std.specs.Slice.{IsItemAt}
use Rattle.std.proofs.lemmas.List.{drop_more}
use Rattle.std.proofs.lemmas.Option.{slice_get_past, slice_get_read}
use Rattle.rkt_route.specs.declared.route.Route.{Route}
use Rattle.rkt_route.specs.declared.route.Sentry.{Sentry}
use Rattle.rkt_ignition.specs.Aborted.{sentries_of}

module _ {X : Type 0} where
  -- an item of the first of two lists, and one of the second
  in_first : (xs ys : List X) (n : ℕ) → n < length xs → slice_get (xs ++ ys) n ≡ slice_get xs n
  in_first [] ys n within = grind arith
  in_first (x ∷ xs) ys zero within = refl
  in_first (x ∷ xs) ys (suc n) within = in_first xs ys n (omega (arith, within))

  in_second : (xs ys : List X) (n : ℕ) → length xs ≤ n → slice_get (xs ++ ys) n ≡ slice_get ys (n - length xs)
  in_second [] ys n past =
      let same : n ≡ n - 0 = omega arith in
      ap (slice_get ys) same
  in_second (x ∷ xs) ys zero past = grind arith
  in_second (x ∷ xs) ys (suc n) past =
      let same : n - length xs ≡ suc n - length (x ∷ xs) = omega arith in
      in_second xs ys n (omega (arith, past)) ∙ ap (slice_get ys) same

  -- what was looked up is what stands there
  looked_up : (xs : List X) (at : ℕ) (r : Option (Bor X)) → IsItemAt xs at r → option_copied r ≡ slice_get xs at
  looked_up xs at None item = sym (slice_get_past xs at item.3)
  looked_up xs at (Some x) item = sym (slice_get_read xs (length xs) at x.now refl item.3.0 item.1)

  -- what holds of what was looked up holds of what stands there
  pub copied_so : (r : Option (Bor X)) (o : Option X) (P : X → Type 0) → option_copied r ≡ o → IfSome r (λ (x : Bor X). P x.now) → IfSome o P
  copied_so None o P is so = subst (λ (o : Option X). IfSome o P) is tt
  copied_so (Some x) o P is so = subst (λ (o : Option X). IfSome o P) is so

module _ {H N : Type 0} (routes : List (Route H N)) (i left : ℕ) (route : Route H N) (sentries : List (Sentry N)) (found : Option (Sentry N)) (within : i < length routes) (is : route ≡ get_or routes i route)
    (same : sentries ≡ route.sentinels) (so_far : slice_get (sentries_of (drop i routes)) left ≡ found) where
  split : slice_get (sentries ++ sentries_of (drop (i + 1) routes)) left ≡ found
  split =
      ap (λ (l : List (Sentry N)). slice_get (l ++ sentries_of (drop (i + 1) routes)) left) same
      ∙ ap (λ (r : Route H N). slice_get (sentries_of (r ∷ drop (i + 1) routes)) left) is
      ∙ ap (λ (l : List (Route H N)). slice_get (sentries_of l) left) (sym (drop_more routes i route within))
      ∙ so_far

  -- it is one of this route's
  pub it_is_here : (r : Option (Bor (Sentry N))) → left < length sentries → IsItemAt sentries left r → option_copied r ≡ found
  it_is_here r less item = looked_up sentries left r item ∙ sym (in_first sentries (sentries_of (drop (i + 1) routes)) left less) ∙ split

  -- it is one of the routes behind this one
  pub it_is_behind : length sentries ≤ left → slice_get (sentries_of (drop (i + 1) routes)) (left - length sentries) ≡ found
  it_is_behind past = sym (in_second sentries (sentries_of (drop (i + 1) routes)) left past) ∙ split
