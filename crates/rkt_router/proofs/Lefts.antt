-- That fewer are left behind each route that is tried.
use Rattle.std.specs.Prelude.{◌≡◌, ◌≤◌, ◌<◌, ◌<ℤ◌, ◌⊎◌, ◌+◌, zero, suc, ℕ, ℤ, List, [], ◌∷◌, Bool, true, false, Option, Some, None, IfSome, IsSomeAnd, length, slice_get, if◌then◌else◌, nat_lt}
use Rattle.std.specs.Int.Signed.{lt_z, lt_z_yes, <ℤ_irrefl}
use Rattle.std.specs.Cmp.{int_chain}
use Rattle.std.proofs.Common.{arith, sym, inl, inr, refl, ◌∙◌, subst}
use Rattle.rkt_route.specs.declared.route.Route.{Route}
use Rattle.rkt_router.proofs.Orders.{matching_within}
use Rattle.rkt_router.specs.Left.{count, is_behind, left, goes_before}
use Rattle.rkt_request.specs.Seen.{Seen}
use Rattle.rkt_router.specs.Tries.{Behind, IsNextTry, Matches}

one_of : (b : Bool) → (if b then 1 else 0) ≤ 1
one_of true = omega arith
one_of false = omega arith

weighs : (b c : Bool) → (b ≡ true → c ≡ true) → (if b then 1 else 0) ≤ (if c then 1 else 0)
weighs false c h = omega arith
weighs true c h = rw (h refl) (omega arith)

-- a test that passes less counts no more
count_le : {H S : Type 0} (f g : ℤ → ℕ → Bool) (q : ℕ) (routes : List (Route H S)) → ((b : ℤ) (k : ℕ) → f b k ≡ true → g b k ≡ true) → count f q routes ≤ count g q routes
count_le f g q [] law = omega arith
count_le f g q (route ∷ routes) law =
    let one = weighs (f route.rank q) (g route.rank q) (law route.rank q) in
    let rest = count_le f g (suc q) routes law in
    omega (arith, one, rest)

-- and one that misses a route counts less
count_lt : {H S : Type 0} (f g : ℤ → ℕ → Bool) (q at k : ℕ) (routes : List (Route H S)) (route : Route H S) → ((b : ℤ) (k : ℕ) → f b k ≡ true → g b k ≡ true) → slice_get routes at ≡ Some route
    → k ≡ q + at → f route.rank k ≡ false → g route.rank k ≡ true → count f q routes < count g q routes
count_lt f g q at k [] route law found is misses passes = absurd (cc found)
count_lt f g q zero k (r ∷ routes) route law found is misses passes =
    let rest = count_le f g (suc q) routes law in
    let same : r ≡ route = cc found in
    let here : k ≡ q = omega (arith, is) in
    let none : f r.rank q ≡ false = rw (same, sym here) misses in
    let one : g r.rank q ≡ true = rw (same, sym here) passes in
    rw (none, one) (omega (arith, rest))
count_lt f g q (suc at) k (r ∷ routes) route law found is misses passes =
    let one = weighs (f r.rank q) (g r.rank q) (law r.rank q) in
    let rest = count_lt f g (suc q) at k routes route law found (omega (arith, is)) misses passes in
    omega (arith, one, rest)

-- a rank and a position that go before others
abbrev Less : ℤ → ℕ → ℤ → ℕ → Type 0
Less a p b q = (a <ℤ b) ⊎ ((a ≡ b) × (p < q))

goes_less : (a b : ℤ) (p q : ℕ) → goes_before a p b q ≡ true → Less a p b q
goes_less a b p q h = by_case (lt_z a b) (lt_z b a) (nat_lt p q) refl refl refl h
  where
    by_case : (x y z : Bool) → lt_z a b ≡ x → lt_z b a ≡ y → nat_lt p q ≡ z → (if x then true else if y then false else z) ≡ true → Less a p b q
    by_case true y z is is' is'' h = inl (lt_z_yes (rw is tt))
    by_case false true z is is' is'' h = absurd (cc h)
    by_case false false z is is' is'' h = grind arith

less_goes : (a b : ℤ) (p q : ℕ) → Less a p b q → goes_before a p b q ≡ true
less_goes a b p q h = grind arith

less_again : (a b c : ℤ) (p q r : ℕ) → Less a p b q → Less b q c r → Less a p c r
less_again a b c p q r (inl x) (inl y) = inl (int_chain a b c x y)
less_again a b c p q r (inl x) (inr y) = inl (subst (λ (c : ℤ). a <ℤ c) y.0 x)
less_again a b c p q r (inr x) (inl y) = inl (subst (λ (b : ℤ). b <ℤ c) (sym x.0) y)
less_again a b c p q r (inr x) (inr y) = inr (x.0 ∙ y.0, omega (arith, x.1, y.1))

less_not_self : (a : ℤ) (p : ℕ) → ¬ Less a p a p
less_not_self a p (inl x) = <ℤ_irrefl x
less_not_self a p (inr x) = omega (arith, x.1)

not_before_itself : (a : ℤ) (p : ℕ) → goes_before a p a p ≡ false
not_before_itself a p = by_case (goes_before a p a p) refl
  where
    by_case : (b : Bool) → goes_before a p a p ≡ b → goes_before a p a p ≡ false
    by_case true is = absurd (less_not_self a p (goes_less a a p p is))
    by_case false is = is

-- what comes behind a position that comes behind another comes behind that one too
narrows : {H S : Type 0} (routes : List (Route H S)) (behind : Option ℕ) (p : ℕ) (route : Route H S) → slice_get routes p ≡ Some route → Behind routes behind p
    → (b : ℤ) (k : ℕ) → is_behind routes (Some p) b k ≡ true → is_behind routes behind b k ≡ true
narrows routes None p route found is b k h = refl
narrows routes (Some o) p route found is b k h = by_case (slice_get routes o) refl
  where
    goes : goes_before route.rank p b k ≡ true
    goes = rw found at h

    by_case : (x : Option (Route _ _)) → slice_get routes o ≡ x → is_behind routes (Some o) b k ≡ true
    by_case None is_none = absurd (rw is_none at is)
    by_case (Some other) is_some =
        let earlier : Less other.rank o route.rank p = rw (is_some, found) at is in
        rw is_some (less_goes other.rank b o k (less_again other.rank route.rank b o p k earlier (goes_less route.rank b p k goes)))

-- a position that comes behind another is counted there
counts : {H S : Type 0} (routes : List (Route H S)) (behind : Option ℕ) (p : ℕ) (route : Route H S) → slice_get routes p ≡ Some route → Behind routes behind p → is_behind routes behind route.rank p ≡ true
counts routes None p route found is = refl
counts routes (Some o) p route found is = by_case (slice_get routes o) refl
  where
    by_case : (x : Option (Route _ _)) → slice_get routes o ≡ x → is_behind routes (Some o) route.rank p ≡ true
    by_case None is_none = absurd (rw is_none at is)
    by_case (Some other) is_some =
        let earlier : Less other.rank o route.rank p = rw (is_some, found) at is in
        rw is_some (less_goes other.rank route.rank o p earlier)

-- fewer are left behind a position than behind the one that it comes behind
pub left_falls : {H S : Type 0} (routes : List (Route H S)) (behind : Option ℕ) (p : ℕ) (route : Route H S) → slice_get routes p ≡ Some route → Behind routes behind p → left routes (Some p) < left routes behind
left_falls routes behind p route found is =
    count_lt (is_behind routes (Some p)) (is_behind routes behind) 0 p p routes route (narrows routes behind p route found is) found (omega arith)
    (rw found (not_before_itself route.rank p)) (counts routes behind p route found is)

-- the route that is tried next, and what is known of it
next_found : {H S V : Type 0} (routes : List (Route H S)) (request : Seen V) (behind : Option ℕ) (p : ℕ) (found : Option (Route H S)) → slice_get routes p ≡ found
    → IsSomeAnd found (λ route. Matches route request) → Behind routes behind p → left routes (Some p) < left routes behind
next_found routes request behind p None is matching comes = absurd matching
next_found routes request behind p (Some route) is matching comes = left_falls routes behind p route is comes

pub next_falls : {H S V : Type 0} (routes : List (Route H S)) (request : Seen V) (behind next : Option ℕ) → IsNextTry routes request behind next
    → IfSome next (λ p. left routes (Some p) < left routes behind)
next_falls routes request behind None is = tt
next_falls routes request behind (Some p) is = next_found routes request behind p (slice_get routes p) refl is.0 is.1

pub next_within : {H S V : Type 0} (routes : List (Route H S)) (request : Seen V) (behind next : Option ℕ) → IsNextTry routes request behind next → IfSome next (λ p. p < length routes)
next_within routes request behind None is = tt
next_within routes request behind (Some p) is = matching_within routes request p is.0
