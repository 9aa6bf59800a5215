-- The order in which routes are tried.
use Rattle.std.proofs.Common.{◌≡◌, ◌<◌, ◌≤◌, ◌+◌, ℕ, List, [], ◌∷◌, ◌++◌, Bool, IsTrue, ◌↔◌, Option, Some, None, ◌⊎◌, inl, inr, arith, sym, ◌∙◌, ap, refl, subst, length, get_or, zero, suc, ◌-◌, length-append}
use Rattle.std.specs.Prelude.{◌<ℤ◌, ℤ, IsSomeAnd, slice_get, slice_index}
use Rattle.std.specs.Cmp.{int_chain}
use Rattle.std.specs.Int.Signed.{◌≤ℤ◌, <ℤ_irrefl}
use Rattle.std.proofs.lemmas.Int.{by_lt_z, ints}
use Rattle.std.specs.List.{IsAmong, insert}
use Rattle.std.proofs.lemmas.List.Edits.{get_or-insert_above, get_or-insert_at, get_or-insert_below, length-insert}
use Rattle.std.proofs.lemmas.List.{get_or_default}
use Rattle.rkt_request.specs.Seen.{Seen}
use Rattle.rkt_router.specs.Order.{IsFirstAt, IsFirstMatch, IsPlaceBehind, IsSorted}
use Rattle.rkt_router.specs.Router.{IsOrder}
use Rattle.rkt_router.specs.Tries.{Before, Behind, IsNextTry, MatchesAt}
use Rattle.rkt_route.specs.declared.route.Route.{Route}

-- a rank and a position go before others
abbrev Less : ℤ → ℕ → ℤ → ℕ → Type 0
Less a p b q = (a <ℤ b) ⊎ ((a ≡ b) × (p < q))

less_trans : (a b c : ℤ) (p q r : ℕ) → Less a p b q → Less b q c r → Less a p c r
less_trans a b c p q r (inl x) (inl y) = inl (int_chain a b c x y)
less_trans a b c p q r (inl x) (inr y) = inl (subst (λ (c : ℤ). a <ℤ c) y.0 x)
less_trans a b c p q r (inr x) (inl y) = inl (subst (λ (b : ℤ). b <ℤ c) (sym x.0) y)
less_trans a b c p q r (inr x) (inr y) = inr (x.0 ∙ y.0, omega (arith, x.1, y.1))

less_not_same : (a : ℤ) (p : ℕ) → ¬ Less a p a p
less_not_same a p (inl x) = <ℤ_irrefl x
less_not_same a p (inr x) = omega (arith, x.1)

antisym_ℤ : (a b : ℤ) → a ≤ℤ b → b ≤ℤ a → a ≡ b
antisym_ℤ a b x y = omega (arith, ints)

-- two of them are the same, or one goes before the other
less_total : (a b : ℤ) (p q : ℕ) → Less a p b q ⊎ ((p ≡ q) ⊎ Less b q a p)
less_total a b p q = by_lt_z a b (λ below. inl (inl below)) (λ above. by_lt_z b a (λ below. inr (inr (inl below))) (λ other. by_place (antisym_ℤ a b other above) (places p q)))
  where
    places : (p q : ℕ) → (p < q) ⊎ ((p ≡ q) ⊎ (q < p))
    places p q = grind arith

    by_place : a ≡ b → (p < q) ⊎ ((p ≡ q) ⊎ (q < p)) → Less a p b q ⊎ ((p ≡ q) ⊎ Less b q a p)
    by_place same (inl below) = inl (inr (same, below))
    by_place same (inr (inl here)) = inr (inl here)
    by_place same (inr (inr above)) = inr (inr (inr (sym same, above)))

trans_of : {H S : Type 0} (a b c : Option (Route H S)) (p q r : ℕ) → IsSomeAnd a (λ a. IsSomeAnd b (λ b. Less a.rank p b.rank q)) → IsSomeAnd b (λ b. IsSomeAnd c (λ c. Less b.rank q c.rank r))
    → IsSomeAnd a (λ a. IsSomeAnd c (λ c. Less a.rank p c.rank r))
trans_of None b c p q r x y = absurd x
trans_of (Some a) None c p q r x y = absurd x
trans_of (Some a) (Some b) None p q r x y = absurd y
trans_of (Some a) (Some b) (Some c) p q r x y = less_trans a.rank b.rank c.rank p q r x y

pub before_trans : {H S : Type 0} (routes : List (Route H S)) (p q r : ℕ) → Before routes p q → Before routes q r → Before routes p r
before_trans routes p q r x y = trans_of (slice_get routes p) (slice_get routes q) (slice_get routes r) p q r x y

-- the same of two routes that may be there
abbrev BeforeOf : {H S : Type 0} → Option (Route H S) → Option (Route H S) → ℕ → ℕ → Type 0
BeforeOf a b p q = IsSomeAnd a (λ a. IsSomeAnd b (λ b. Less a.rank p b.rank q))

-- a test of ranks and positions decides
pub before_decided : {H S : Type 0} (routes : List (Route H S)) (p q : ℕ) (a b : Route H S) (r : Bool) → slice_get routes p ≡ Some a → slice_get routes q ≡ Some b
    → IsTrue r ↔ Less a.rank p b.rank q → IsTrue r ↔ Before routes p q
before_decided {H} {S} routes p q a b r is other law = (
  λ yes. subst (λ (x : Option (Route H S)). BeforeOf x (slice_get routes q) p q) (sym is) (subst (λ (y : Option (Route H S)). BeforeOf (Some a) y p q) (sym other) (law.0 yes)),
  λ h. law.1 (subst (λ (y : Option (Route H S)). BeforeOf (Some a) y p q) other (subst (λ (x : Option (Route H S)). BeforeOf x (slice_get routes q) p q) is h)),
)

none_of : {H S : Type 0} (a b : Option (Route H S)) (p q : ℕ) → b ≡ None → ¬ BeforeOf a b p q
none_of None b p q is h = h
none_of (Some a) None p q is h = h
none_of (Some a) (Some b) p q is h = absurd (cc is)

pub before_none : {H S : Type 0} (routes : List (Route H S)) (p q : ℕ) → slice_get routes q ≡ None → ¬ Before routes p q
before_none routes p q is h = none_of (slice_get routes p) (slice_get routes q) p q is h

not_same_of : {H S : Type 0} (a : Option (Route H S)) (p : ℕ) → ¬ IsSomeAnd a (λ x. IsSomeAnd a (λ y. Less x.rank p y.rank p))
not_same_of None p x = x
not_same_of (Some a) p x = less_not_same a.rank p x

pub before_not_same : {H S : Type 0} (routes : List (Route H S)) (p : ℕ) → ¬ Before routes p p
before_not_same routes p x = not_same_of (slice_get routes p) p x

total_of : {H S : Type 0} (a b : Option (Route H S)) (x y : Route H S) (p q : ℕ) → a ≡ Some x → b ≡ Some y
    → IsSomeAnd a (λ a. IsSomeAnd b (λ b. Less a.rank p b.rank q)) ⊎ ((p ≡ q) ⊎ IsSomeAnd b (λ b. IsSomeAnd a (λ a. Less b.rank q a.rank p)))
total_of None b x y p q is other = absurd (cc is)
total_of (Some a) None x y p q is other = absurd (cc other)
total_of (Some a) (Some b) x y p q is other = less_total a.rank b.rank p q

-- what the search knows: how far the positions are not behind the one sought, and from where on they are
pub record Narrows {H S : Type 0} (routes : List (Route H S)) (order : List ℕ) (position low high : ℕ) : Type 0 where
  pub between : low ≤ high
  pub within : high ≤ length order
  pub front : (k : ℕ) → k < low → ¬ Before routes position (slice_index order k)
  pub behind : (k : ℕ) → high ≤ k → k < length order → Before routes position (slice_index order k)

-- the search goes on in the front part
pub narrows_front : {H S : Type 0} (routes : List (Route H S)) (order : List ℕ) (position low high middle : ℕ) → IsSorted routes order → Narrows routes order position low high → low ≤ middle
    → middle < high → Before routes position (slice_index order middle) → Narrows routes order position low middle
narrows_front routes order position low high middle sorted known above below here = record {
  between = above;
  within = omega (arith, known.within);
  front = known.front;
  behind = λ k from within. by_place k within (places middle k from);
}
  where
    places : (m k : ℕ) → m ≤ k → (m ≡ k) ⊎ (m < k)
    places m k h = grind arith

    by_place : (k : ℕ) → k < length order → (middle ≡ k) ⊎ (middle < k) → Before routes position (slice_index order k)
    by_place k within (inl same) = subst (λ (i : ℕ). Before routes position (slice_index order i)) same here
    by_place k within (inr later) = before_trans routes position (slice_index order middle) (slice_index order k) here (sorted.pairs middle k 0 later within)

-- or behind the middle
pub narrows_back : {H S : Type 0} (routes : List (Route H S)) (order : List ℕ) (position low high middle : ℕ) → IsSorted routes order → Narrows routes order position low high → low ≤ middle
    → middle < high → ¬ Before routes position (slice_index order middle) → Narrows routes order position (middle + 1) high
narrows_back routes order position low high middle sorted known above below here = record {
  between = omega arith;
  within = known.within;
  front = λ k up_to. by_place k (places k middle up_to);
  behind = known.behind;
}
  where
    places : (k m : ℕ) → k < m + 1 → (k ≡ m) ⊎ (k < m)
    places k m h = grind arith

    by_place : (k : ℕ) → (k ≡ middle) ⊎ (k < middle) → ¬ Before routes position (slice_index order k)
    by_place k (inl same) x = here (subst (λ (i : ℕ). Before routes position (slice_index order i)) same x)
    by_place k (inr earlier) x =
        here (before_trans routes position (slice_index order k) (slice_index order middle) x (sorted.pairs k middle 0 earlier (omega (arith, known.within))))

-- a route that matches stands at a position of the list
pub matching_within : {H S V : Type 0} (routes : List (Route H S)) (request : Seen V) (q : ℕ) → MatchesAt routes request q → q < length routes
matching_within [] request q h = absurd h
matching_within (r ∷ routes) request zero h = omega arith
matching_within (r ∷ routes) request (suc q) h = let more = matching_within routes request q h in omega (arith, more)

-- the place of a position that matches and comes behind another
record PlaceOf {H S V : Type 0} (routes : List (Route H S)) (request : Seen V) (order : List ℕ) (place q : ℕ) : Type 0 where
  at : ℕ
  from : place ≤ at
  within : at < length order
  is : q ≡ slice_index order at

place_of : {H S V : Type 0} (routes : List (Route H S)) (request : Seen V) (order : List ℕ) (after : Option ℕ) (place q : ℕ) → IsOrder routes order → IsPlaceBehind routes order after place
    → MatchesAt routes request q → Behind routes after q → PlaceOf routes request order place q
place_of routes request order after place q is split matching behind =
    let among = (is.each q).1 (matching_within routes request q matching) in
    let here : q ≡ slice_index order among.0 = among.1.1 ∙ get_or_default order among.0 q 0 among.1.0 in
    by_place among.0 among.1.0 here (places among.0 place)
  where
    places : (k place : ℕ) → (k < place) ⊎ (place ≤ k)
    places k place = grind arith

    by_place : (k : ℕ) → k < length order → q ≡ slice_index order k → (k < place) ⊎ (place ≤ k) → PlaceOf routes request order place q
    by_place k within here (inl earlier) = absurd (split.front k earlier (subst (λ (i : ℕ). Behind routes after i) here behind))
    by_place k within here (inr later) = record { at = k; from = later; within = within; is = here }

-- nothing is left to be tried
pub none_next : {H S V : Type 0} (routes : List (Route H S)) (order : List ℕ) (request : Seen V) (after : Option ℕ) (place : ℕ) → IsOrder routes order → IsPlaceBehind routes order after place
    → IsFirstMatch routes order request place None → IsNextTry routes request after None
none_next routes order request after place is split none q matching behind =
    let at = place_of routes request order after place q is split matching behind in
    none at.at at.from at.within (subst (MatchesAt routes request) at.is matching)

-- the first match that is left is tried next
pub first_next : {H S V : Type 0} (routes : List (Route H S)) (order : List ℕ) (request : Seen V) (after : Option ℕ) (from place : ℕ) → IsOrder routes order
    → IsPlaceBehind routes order after from → IsFirstAt routes order request from place → IsNextTry routes request after (Some (slice_index order place))
first_next routes order request after from place is split first = (
  first.matching,
  split.behind place first.behind first.within,
  λ q matching behind.
      let at = place_of routes request order after from q is split matching behind in
      by_place q matching at.at at.from at.within at.is (places place at.at),
)
  where
    places : (m k : ℕ) → (k < m) ⊎ ((m ≡ k) ⊎ (m < k))
    places m k = grind arith

    by_place : (q : ℕ) → MatchesAt routes request q → (k : ℕ) → from ≤ k → k < length order → q ≡ slice_index order k → (k < place) ⊎ ((place ≡ k) ⊎ (place < k))
        → (slice_index order place ≡ q) ⊎ Before routes (slice_index order place) q
    by_place q matching k behind within here (inl earlier) = absurd (first.skipped k behind earlier (subst (MatchesAt routes request) here matching))
    by_place q matching k behind within here (inr (inl same)) = inl (ap (slice_index order) same ∙ sym here)
    by_place q matching k behind within here (inr (inr later)) = inr (subst (Before routes (slice_index order place)) (sym here) (is.sorted.pairs place k 0 later within))

-- what stands at a place behind an insertion
data Placed (xs : List ℕ) (at y d : ℕ) (j v : ℕ) : Type 0 where
  earlier : j < at → v ≡ get_or xs j d → Placed xs at y d j v
  here : j ≡ at → v ≡ y → Placed xs at y d j v
  later : (m : ℕ) → j ≡ m + 1 → at ≤ m → m < length xs → v ≡ get_or xs m d → Placed xs at y d j v

placed : (xs : List ℕ) (at y d j : ℕ) → at ≤ length xs → j < length (insert xs at y) → Placed xs at y d j (get_or (insert xs at y) j d)
placed xs at y d j within below = by_place (places j at)
  where
    places : (j at : ℕ) → (j < at) ⊎ ((j ≡ at) ⊎ (at < j))
    places j at = grind arith

    by_place : (j < at) ⊎ ((j ≡ at) ⊎ (at < j)) → Placed xs at y d j (get_or (insert xs at y) j d)
    by_place (inl before) = earlier before (get_or-insert_below xs at y d j before within)
    by_place (inr (inl same)) = here same (ap (λ (i : ℕ). get_or (insert xs at y) i d) same ∙ get_or-insert_at xs at y d within)
    by_place (inr (inr behind)) =
        let is : j ≡ (j - 1) + 1 = omega (arith, behind) in
        later (j - 1) is (omega (arith, behind)) (omega (arith, length-insert xs at y within, below, behind))
        (ap (λ (i : ℕ). get_or (insert xs at y) i d) is ∙ get_or-insert_above xs at y d (j - 1) (omega (arith, behind)) within)

slice_get_front : {X : Type 0} (xs ys : List X) (p : ℕ) → p < length xs → slice_get (xs ++ ys) p ≡ slice_get xs p
slice_get_front [] ys p within = absurd (omega (arith, within))
slice_get_front (x ∷ xs) ys zero within = refl
slice_get_front (x ∷ xs) ys (suc p) within = slice_get_front xs ys p (omega (arith, within))

-- routes that are mounted behind others change nothing among these
before_front : {H S : Type 0} (routes more : List (Route H S)) (p q : ℕ) → p < length routes → q < length routes → Before routes p q → Before (routes ++ more) p q
before_front {H} {S} routes more p q p_within q_within h =
    subst (λ (x : Option (Route H S)). BeforeOf x (slice_get (routes ++ more) q) p q) (sym (slice_get_front routes more p p_within))
    (subst (λ (y : Option (Route H S)). BeforeOf (slice_get routes p) y p q) (sym (slice_get_front routes more q q_within)) h)

order_within : {H S : Type 0} (routes : List (Route H S)) (order : List ℕ) (k d : ℕ) → IsOrder routes order → k < length order → get_or order k d < length routes
order_within routes order k d is within = (is.each (get_or order k d)).0 (k, (within, get_or_default order k d (get_or order k d) within))

pub sorted_front : {H S : Type 0} (routes : List (Route H S)) (route : Route H S) (order : List ℕ) → IsOrder routes order → IsSorted (routes ++ route ∷ []) order
sorted_front routes route order is = record {
  pairs = λ i j d less within.
      before_front routes (route ∷ []) (get_or order i d) (get_or order j d) (order_within routes order i d is (omega (arith, less, within))) (order_within routes order j d is within)
      (is.sorted.pairs i j d less within);
}

total : {H S : Type 0} (routes : List (Route H S)) (p q : ℕ) → p < length routes → q < length routes → Before routes p q ⊎ ((p ≡ q) ⊎ Before routes q p)
total routes p q p_within q_within =
    let a = slice_get_there routes p p_within in
    let b = slice_get_there routes q q_within in
    total_of (slice_get routes p) (slice_get routes q) a.0 b.0 p q a.1 b.1
  where
    slice_get_there : {X : Type 0} (xs : List X) (p : ℕ) → p < length xs → (x : X) × (slice_get xs p ≡ Some x)
    slice_get_there [] p within = absurd (omega (arith, within))
    slice_get_there (x ∷ xs) zero within = (x, refl)
    slice_get_there (x ∷ xs) (suc p) within = slice_get_there xs p (omega (arith, within))

-- the order stays one where the position of a route that is mounted last is put in its place
module _ {H S : Type 0} (routes : List (Route H S)) (route : Route H S) (order : List ℕ) (place : ℕ) (is : IsOrder routes order)
    (split : IsPlaceBehind (routes ++ route ∷ []) order (Some (length routes)) place) where
  one_more : length (routes ++ route ∷ []) ≡ length routes + 1
  one_more = length-append routes (route ∷ [])

  sorted_all : IsSorted (routes ++ route ∷ []) order
  sorted_all = sorted_front routes route order is

  -- what stands before the place goes before the last route
  goes_first : (k d : ℕ) → k < place → Before (routes ++ route ∷ []) (get_or order k d) (length routes)
  goes_first k d below =
      let within : k < length order = omega (arith, split.within, below) in
      let position : get_or order k d < length routes = order_within routes order k d is within in
      let zero_default : get_or order k d ≡ slice_index order k = get_or_default order k d 0 within in
      by_case position zero_default (total (routes ++ route ∷ []) (get_or order k d) (length routes) (omega (arith, one_more, position)) (omega (arith, one_more)))
    where
      by_case : get_or order k d < length routes → get_or order k d ≡ slice_index order k
          → Before (routes ++ route ∷ []) (get_or order k d) (length routes) ⊎ ((get_or order k d ≡ length routes) ⊎ Before (routes ++ route ∷ []) (length routes) (get_or order k d))
          → Before (routes ++ route ∷ []) (get_or order k d) (length routes)
      by_case position same (inl h) = h
      by_case position same (inr (inl h)) = absurd (omega (arith, position, h))
      by_case position same (inr (inr h)) = absurd (split.front k below (subst (Before (routes ++ route ∷ []) (length routes)) same h))

  goes_last : (k d : ℕ) → place ≤ k → k < length order → Before (routes ++ route ∷ []) (length routes) (get_or order k d)
  goes_last k d from within = subst (Before (routes ++ route ∷ []) (length routes)) (sym (get_or_default order k d 0 within)) (split.behind k from within)

  pair_before : (i j d v w : ℕ) → i < j → Placed order place (length routes) d i v → Placed order place (length routes) d j w → Before (routes ++ route ∷ []) v w
  pair_before i j d v w less (earlier a x) (earlier b y) =
      subst (λ (v : ℕ). Before (routes ++ route ∷ []) v w) (sym x) (subst (Before (routes ++ route ∷ []) (get_or order i d)) (sym y) (sorted_all.pairs i j d less (omega (arith, b, split.within))))
  pair_before i j d v w less (earlier a x) (here b y) =
      subst (λ (v : ℕ). Before (routes ++ route ∷ []) v w) (sym x) (subst (Before (routes ++ route ∷ []) (get_or order i d)) (sym y) (goes_first i d a))
  pair_before i j d v w less (earlier a x) (later m b from within y) =
      subst (λ (v : ℕ). Before (routes ++ route ∷ []) v w) (sym x) (subst (Before (routes ++ route ∷ []) (get_or order i d)) (sym y) (sorted_all.pairs i m d (omega (arith, a, from)) within))
  pair_before i j d v w less (here a x) (earlier b y) = absurd (omega (arith, less, a, b))
  pair_before i j d v w less (here a x) (here b y) = absurd (omega (arith, less, a, b))
  pair_before i j d v w less (here a x) (later m b from within y) =
      subst (λ (v : ℕ). Before (routes ++ route ∷ []) v w) (sym x) (subst (Before (routes ++ route ∷ []) (length routes)) (sym y) (goes_last m d from within))
  pair_before i j d v w less (later m a from within x) (earlier b y) = absurd (omega (arith, less, a, from, b))
  pair_before i j d v w less (later m a from within x) (here b y) = absurd (omega (arith, less, a, from, b))
  pair_before i j d v w less (later m a from within x) (later n b from' within' y) =
      subst (λ (v : ℕ). Before (routes ++ route ∷ []) v w) (sym x) (subst (Before (routes ++ route ∷ []) (get_or order m d)) (sym y) (sorted_all.pairs m n d (omega (arith, less, a, b)) within'))

  position_within : (q j : ℕ) → Placed order place (length routes) q j q → j < length (insert order place (length routes)) → q < length (routes ++ route ∷ [])
  position_within q j (earlier a x) below =
      let position : get_or order j q < length routes = order_within routes order j q is (omega (arith, a, split.within)) in omega (arith, one_more, x, position)
  position_within q j (here a x) below = omega (arith, one_more, x)
  position_within q j (later m a from within x) below =
      let position : get_or order m q < length routes = order_within routes order m q is within in omega (arith, one_more, x, position)

  stands : (q : ℕ) → q < length routes + 1 → IsAmong (insert order place (length routes)) q
  stands q below = by_case (places q (length routes) below)
    where
      places : (q n : ℕ) → q < n + 1 → (q ≡ n) ⊎ (q < n)
      places q n h = grind arith

      sides : (k place : ℕ) → (k < place) ⊎ (place ≤ k)
      sides k place = grind arith

      by_side : (k : ℕ) → k < length order → q ≡ get_or order k q → (k < place) ⊎ (place ≤ k) → IsAmong (insert order place (length routes)) q
      by_side k within same (inl before) =
          (k, (omega (arith, length-insert order place (length routes) split.within, within), same ∙ sym (get_or-insert_below order place (length routes) q k before split.within)))
      by_side k within same (inr behind) =
          (k + 1, (omega (arith, length-insert order place (length routes) split.within, within), same ∙ sym (get_or-insert_above order place (length routes) q k behind split.within)))

      by_case : (q ≡ length routes) ⊎ (q < length routes) → IsAmong (insert order place (length routes)) q
      by_case (inl same) =
          (place, (omega (arith, length-insert order place (length routes) split.within, split.within), same ∙ sym (get_or-insert_at order place (length routes) q split.within)))
      by_case (inr within) = let among = (is.each q).1 within in by_side among.0 among.1.0 among.1.1 (sides among.0 place)

  pub order_push : IsOrder (routes ++ route ∷ []) (insert order place (length routes))
  order_push = record {
    each = λ q. (
      λ among. position_within q among.0
          (subst (Placed order place (length routes) q among.0) (sym among.1.1) (placed order place (length routes) q among.0 split.within among.1.0)) among.1.0,
      λ below. stands q (omega (arith, one_more, below)),
    );
    sorted = record {
      pairs = λ i j d less within.
          pair_before i j d _ _ less (placed order place (length routes) d i split.within (omega (arith, less, within))) (placed order place (length routes) d j split.within within);
    };
  }

pub order_none : {H S : Type 0} → IsOrder {H = H} {S = S} [] []
order_none = record {
  each = λ q. (λ among. absurd (omega (arith, among.1.0)), λ within. absurd (omega (arith, within)));
  sorted = record { pairs = λ i j d less within. absurd (omega (arith, within)) };
}

-- the same, where routes and order go by other names
pub sorted_in : {H S : Type 0} (routes routes' : List (Route H S)) (route : Route H S) (order order' : List ℕ) → routes' ≡ routes ++ route ∷ [] → order' ≡ order → IsOrder routes order
    → IsSorted routes' order'
sorted_in {H} {S} routes routes' route order order' is_routes is_order is =
    subst (λ (o : List ℕ). IsSorted routes' o) (sym is_order) (subst (λ (r : List (Route H S)). IsSorted r order) (sym is_routes) (sorted_front routes route order is))

pub order_in : {H S : Type 0} (routes routes' seen : List (Route H S)) (route : Route H S) (order order' seen' order'' : List ℕ) (place position : ℕ) → routes' ≡ routes ++ route ∷ []
    → order' ≡ order → seen ≡ routes' → seen' ≡ order' → position ≡ length routes → order'' ≡ insert order' place position → IsOrder routes order
    → IsPlaceBehind seen seen' (Some position) place → IsOrder routes' order''
order_in {H} {S} routes routes' seen route order order' seen' order'' place position is_routes is_order sees sees' is_position is_inserted is split =
    let split' : IsPlaceBehind (routes ++ route ∷ []) order (Some (length routes)) place =
    subst (λ (r : List (Route H S)). IsPlaceBehind r order (Some (length routes)) place) (sees ∙ is_routes)
    (subst (λ (o : List ℕ). IsPlaceBehind seen o (Some (length routes)) place) (sees' ∙ is_order) (subst (λ (p : ℕ). IsPlaceBehind seen seen' (Some p) place) is_position split)) in
    let inserted : order'' ≡ insert order place (length routes) = is_inserted ∙ ap (λ (o : List ℕ). insert o place position) is_order ∙ ap (insert order place) is_position in
    subst (IsOrder routes') (sym inserted) (subst (λ (r : List (Route H S)). IsOrder r (insert order place (length routes))) (sym is_routes) (order_push routes route order place is split'))
