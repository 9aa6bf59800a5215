-- What is reached is closed: no layer is left behind as many as there are sentries, since each but an empty one opens a new key.
use Rattle.std.proofs.Common.{◌≡◌, ◌≤◌, ◌<◌, ◌+◌, ◌∷◌, ◌++◌, ◌∙◌, ◌⊎◌, inl, inr, ℕ, suc, zero, [], List, Bool, true, false, Option, None, Some, ap, append_assoc, append-nil, arith, eqb, length, length-append, ne_eqb, not, refl, subst, sym}
use Rattle.std.specs.Prelude.{◌==◌, ◌&&◌, ◌||◌, IsSomeAnd, slice_get, slice_index_or, if◌then◌else◌}
use Rattle.std.specs.List.{AllByRecursion, Contains, IsDistinct, list_any}
use Rattle.std.specs.Option.{option_map_or}
use Rattle.std.proofs.lemmas.Bool.{eqb-true, false≢true, true≢false}
use Rattle.std.proofs.lemmas.List.Folds.{list_any-append}
use Rattle.std.proofs.lemmas.Map.Steps.{length-le_from_distinct_below}
use Rattle.std.proofs.lemmas.Option.{slice_get_within}
use Rattle.rkt_http.specs.declared.key.Key.{Key}
use Rattle.rkt_ignition.specs.Reached.{IsClosed, all_opened, children, firsts, has_key, is_first, layers, opened, reached}
use Rattle.rkt_ignition.specs.declared.node.Node.{Node}

-- it is one of these
abbrev Has : List ℕ → ℕ → Type 0
Has [] x = ⊥
Has (y ∷ ys) x = (y ≡ x) ⊎ Has ys x

has_left : (xs ys : List ℕ) (x : ℕ) → Has xs x → Has (xs ++ ys) x
has_left [] ys x h = absurd h
has_left (z ∷ xs) ys x (inl same) = inl same
has_left (z ∷ xs) ys x (inr later) = inr (has_left xs ys x later)

has_right : (xs ys : List ℕ) (x : ℕ) → Has ys x → Has (xs ++ ys) x
has_right [] ys x h = h
has_right (z ∷ xs) ys x h = inr (has_right xs ys x h)

has_cases : (xs ys : List ℕ) (x : ℕ) → Has (xs ++ ys) x → Has xs x ⊎ Has ys x
has_cases [] ys x h = inr h
has_cases (z ∷ xs) ys x (inl same) = inl (inl same)
has_cases (z ∷ xs) ys x (inr h) = later (has_cases xs ys x h)
  where
    later : Has xs x ⊎ Has ys x → Has (z ∷ xs) x ⊎ Has ys x
    later (inl l) = inl (inr l)
    later (inr r) = inr r

to_contains : (xs : List ℕ) (x : ℕ) → Has xs x → Contains xs x
to_contains [] x h = absurd h
to_contains (y ∷ ys) x (inl same) = (0, omega arith, same)
to_contains (y ∷ ys) x (inr h) = let c = to_contains ys x h in (suc c.0, omega (arith, c.1), c.2)

from_contains : (xs : List ℕ) (x k : ℕ) → k < length xs → slice_index_or xs k x ≡ x → Has xs x
from_contains [] x k within is = omega (arith, within)
from_contains (y ∷ ys) x zero within is = inl is
from_contains (y ∷ ys) x (suc k) within is = inr (from_contains ys x k (omega (arith, within)) is)

any_has : (test : ℕ → Bool) (xs : List ℕ) (x : ℕ) → Has xs x → test x ≡ true → list_any test xs ≡ true
any_has test [] x h is = absurd h
any_has test (y ∷ ys) x (inl same) is = rw (same, is) refl
any_has test (y ∷ ys) x (inr h) is = either (test y) (any_has test ys x h is)
  where
    either : (b : Bool) {c : Bool} → c ≡ true → (b || c) ≡ true
    either true is = refl
    either false is = is

module _ (nodes : List Node) where
  -- one that is not specialised stands there, and none before it is so and has its key
  abbrev First : List ℕ → ℕ → Type 0
  First before at = (node : Node) × (slice_get nodes at ≡ Some node) × (node.specialized ≡ false) × (list_any (has_key nodes false node.key) before ≡ false)

  first_of : (before : List ℕ) (at : ℕ) → is_first nodes false before at ≡ true → First before at
  first_of before at first = there (slice_get nodes at) refl first
    where
      both : (node : Node) (s h : Bool) → slice_get nodes at ≡ Some node → node.specialized ≡ s → list_any (has_key nodes false node.key) before ≡ h → (not s && not h) ≡ true → First before at
      both node false false is such none first = (node, is, such, none)
      both node false true is such none first = absurd (false≢true first)
      both node true h is such none first = absurd (false≢true first)

      there : (o : Option Node) → slice_get nodes at ≡ o → option_map_or (λ node. not node.specialized && not (list_any (has_key nodes false node.key) before)) o false ≡ true → First before at
      there None is first = absurd (false≢true first)
      there (Some node) is first = both node node.specialized (list_any (has_key nodes false node.key) before) is refl refl first

  -- where it is not the first, its key is had before
  not_first : (before : List ℕ) (at : ℕ) (node : Node) → slice_get nodes at ≡ Some node → node.specialized ≡ false → is_first nodes false before at ≡ false → list_any (has_key nodes false node.key) before ≡ true
  not_first before at node is such first =
      had (list_any (has_key nodes false node.key) before)
      (subst (λ (s : Bool). (not s && not (list_any (has_key nodes false node.key) before)) ≡ false) such
      (subst (λ (o : Option Node). option_map_or (λ node. not node.specialized && not (list_any (has_key nodes false node.key) before)) o false ≡ false) is first))
    where
      had : (h : Bool) → (not false && not h) ≡ false → h ≡ true
      had true none = refl
      had false none = absurd (true≢false none)

  has_own : (at : ℕ) (node : Node) → slice_get nodes at ≡ Some node → node.specialized ≡ false → has_key nodes false node.key at ≡ true
  has_own at node is such = rw (is, such) (same_key node.key.0)
    where
      same_key : (n : ℕ) → (n == n) ≡ true
      same_key n = grind arith

  -- one that is not specialised stands there, and has this key
  abbrev Keyed : Key → ℕ → Type 0
  Keyed key at = (node : Node) × (slice_get nodes at ≡ Some node) × (node.specialized ≡ false) × (node.key ≡ key)

  keyed_of : (key : Key) (at : ℕ) → has_key nodes false key at ≡ true → Keyed key at
  keyed_of key at has = there (slice_get nodes at) refl has
    where
      both : (node : Node) (s e : Bool) → slice_get nodes at ≡ Some node → node.specialized ≡ s → (node.key.0 == key.0) ≡ e → (not s && e) ≡ true → Keyed key at
      both node false true is such same has = (node, is, such, ap (λ (n : ℕ). record { 0 = n }) (eqb-true node.key.0 key.0 same))
      both node false false is such same has = absurd (false≢true has)
      both node true e is such same has = absurd (false≢true has)

      there : (o : Option Node) → slice_get nodes at ≡ o → option_map_or (λ node. not node.specialized && (node.key.0 == key.0)) o false ≡ true → Keyed key at
      there None is has = absurd (false≢true has)
      there (Some node) is has = both node node.specialized (node.key.0 == key.0) is refl refl has

  firsts_append : (before xs ys : List ℕ) → firsts nodes false before (xs ++ ys) ≡ firsts nodes false before xs ++ firsts nodes false (before ++ xs) ys
  firsts_append before [] ys = ap (λ (b : List ℕ). firsts nodes false b ys) (sym (append-nil before))
  firsts_append before (x ∷ xs) ys =
      one (is_first nodes false before x) _ _ _
      (firsts_append (before ++ x ∷ []) xs ys ∙ ap (λ (b : List ℕ). firsts nodes false (before ++ x ∷ []) xs ++ firsts nodes false b ys) (append_assoc before (x ∷ []) xs))
    where
      one : (first : Bool) (a b c : List ℕ) → a ≡ b ++ c → (if first then x ∷ a else a) ≡ (if first then x ∷ b else b) ++ c
      one true a b c is = ap (λ (l : List ℕ). x ∷ l) is
      one false a b c is = is

  -- none of the first ones is one of those before
  apart : (before xs : List ℕ) (x : ℕ) → Has before x → AllByRecursion (λ y. eqb x y ≡ false) (firsts nodes false before xs)
  apart before [] x h = tt
  apart before (z ∷ xs) x h = one (is_first nodes false before z) refl (apart (before ++ z ∷ []) xs x (has_left before (z ∷ []) x h))
    where
      differ : is_first nodes false before z ≡ true → x ≡ z → ⊥
      differ first same =
          let f = first_of before z first in
          true≢false (sym (any_has (has_key nodes false f.0.key) before x h (subst (λ (n : ℕ). has_key nodes false f.0.key n ≡ true) (sym same) (has_own z f.0 f.1 f.2))) ∙ f.3)

      one : (first : Bool) → is_first nodes false before z ≡ first → AllByRecursion (λ y. eqb x y ≡ false) (firsts nodes false (before ++ z ∷ []) xs)
          → AllByRecursion (λ y. eqb x y ≡ false) (if first then z ∷ firsts nodes false (before ++ z ∷ []) xs else firsts nodes false (before ++ z ∷ []) xs)
      one true first rest = (ne_eqb x z (differ first), rest)
      one false first rest = rest

  distinct : (before xs : List ℕ) → IsDistinct eqb (firsts nodes false before xs)
  unfolding IsDistinct
  distinct before [] = tt
  distinct before (x ∷ xs) = one (is_first nodes false before x) (distinct (before ++ x ∷ []) xs)
    where
      one : (first : Bool) → IsDistinct eqb (firsts nodes false (before ++ x ∷ []) xs)
          → IsDistinct eqb (if first then x ∷ firsts nodes false (before ++ x ∷ []) xs else firsts nodes false (before ++ x ∷ []) xs)
      one true rest = (apart (before ++ x ∷ []) xs x (has_right before (x ∷ []) x (inl refl)), rest)
      one false rest = rest

  -- each of them is a sentry's position
  below : (before xs : List ℕ) (q : ℕ) → list_any (eqb q) (firsts nodes false before xs) ≡ true → q < length nodes
  below before [] q h = absurd (false≢true h)
  below before (x ∷ xs) q h = one (is_first nodes false before x) refl (below (before ++ x ∷ []) xs q) h
    where
      here : is_first nodes false before x ≡ true → (list_any (eqb q) (firsts nodes false (before ++ x ∷ []) xs) ≡ true → q < length nodes) → (e : Bool) → eqb q x ≡ e
          → (e || list_any (eqb q) (firsts nodes false (before ++ x ∷ []) xs)) ≡ true → q < length nodes
      here first rest true same h = let f = first_of before x first in subst (λ (n : ℕ). n < length nodes) (sym (eqb-true q x same)) (slice_get_within nodes x f.0 f.1)
      here first rest false same h = rest h

      one : (first : Bool) → is_first nodes false before x ≡ first → (list_any (eqb q) (firsts nodes false (before ++ x ∷ []) xs) ≡ true → q < length nodes)
          → list_any (eqb q) (if first then x ∷ firsts nodes false (before ++ x ∷ []) xs else firsts nodes false (before ++ x ∷ []) xs) ≡ true → q < length nodes
      one true first rest h = here first rest (eqb q x) refl h
      one false first rest h = rest h

  few : (xs : List ℕ) → length (firsts nodes false [] xs) ≤ length nodes
  few xs = length-le_from_distinct_below (firsts nodes false [] xs) (length nodes) (distinct [] xs) (below [] xs)

  opens_of : (at : ℕ) (node : Node) → slice_get nodes at ≡ Some node → opened nodes at ≡ children nodes (Some node.key)
  opens_of at node is = rw is refl

  -- a first one of the same key opens what it opens
  abbrev StandsFor : List ℕ → ℕ → Type 0
  StandsFor found at = (first : ℕ) × Has found first × (opened nodes first ≡ opened nodes at)

  module _ (at : ℕ) (node : Node) (is : slice_get nodes at ≡ Some node) (such : node.specialized ≡ false) where
    -- the first ones from one on, where that one is the first of its key or not
    abbrev found : List ℕ → ℕ → List ℕ → Bool → List ℕ
    found before x xs first = if first then x ∷ firsts nodes false (before ++ x ∷ []) xs else firsts nodes false (before ++ x ∷ []) xs

    -- one of these stands for it, or its key was had before
    abbrev Either : List ℕ → ℕ → List ℕ → Bool → Type 0
    Either before x xs first = StandsFor (found before x xs first) at ⊎ (list_any (has_key nodes false node.key) before ≡ true)

    stands_for : (before xs : List ℕ) → Has xs at → StandsFor (firsts nodes false before xs) at ⊎ (list_any (has_key nodes false node.key) before ≡ true)
    stands_for before [] h = absurd h
    stands_for before (x ∷ xs) h = one (is_first nodes false before x) refl (stands_for (before ++ x ∷ []) xs) h
      where
        later : (first : Bool) (f : ℕ) → Has (firsts nodes false (before ++ x ∷ []) xs) f → Has (found before x xs first) f
        later true f h = inr h
        later false f h = h

        by_key : (first : Bool) → is_first nodes false before x ≡ first → Keyed node.key x → Either before x xs first
        by_key true first keyed = inl (x, inl refl, opens_of x keyed.0 keyed.1 ∙ ap (λ (k : Key). children nodes (Some k)) keyed.3 ∙ sym (opens_of at node is))
        by_key false first keyed = inr (subst (λ (k : Key). list_any (has_key nodes false k) before ≡ true) keyed.3 (not_first before x keyed.0 keyed.1 keyed.2 first))

        had : (first : Bool) → is_first nodes false before x ≡ first → (b k : Bool) → list_any (has_key nodes false node.key) before ≡ b → has_key nodes false node.key x ≡ k → (b || (k || false)) ≡ true → Either before x xs first
        had first first_is true k before_is key_is any = inr before_is
        had first first_is false true before_is key_is any = by_key first first_is (keyed_of node.key x key_is)
        had first first_is false false before_is key_is any = absurd (false≢true any)

        on : (first : Bool) → is_first nodes false before x ≡ first
            → StandsFor (firsts nodes false (before ++ x ∷ []) xs) at ⊎ (list_any (has_key nodes false node.key) (before ++ x ∷ []) ≡ true) → Either before x xs first
        on first first_is (inl stands) = inl (stands.0, later first stands.0 stands.1, stands.2)
        on first first_is (inr any) = had first first_is _ _ refl refl (sym (list_any-append (has_key nodes false node.key) before (x ∷ [])) ∙ any)

        one : (first : Bool) → is_first nodes false before x ≡ first
            → (Has xs at → StandsFor (firsts nodes false (before ++ x ∷ []) xs) at ⊎ (list_any (has_key nodes false node.key) (before ++ x ∷ []) ≡ true)) → Has (x ∷ xs) at → Either before x xs first
        one first first_is rest (inl same) = by_key first first_is (subst (Keyed node.key) (sym same) (node, is, such, refl))
        one first first_is rest (inr h) = on first first_is (rest h)

  opens_all : (firsts_ : List ℕ) (f child : ℕ) → Has firsts_ f → Has (opened nodes f) child → Has (all_opened nodes firsts_) child
  opens_all [] f child h opens = absurd h
  opens_all (g ∷ gs) f child (inl same) opens = has_left (opened nodes g) (all_opened nodes gs) child (subst (λ (n : ℕ). Has (opened nodes n) child) (sym same) opens)
  opens_all (g ∷ gs) f child (inr h) opens = has_right (opened nodes g) (all_opened nodes gs) child (opens_all gs f child h opens)

  stays : (more : ℕ) (before : List ℕ) → layers nodes more before [] ≡ before
  stays zero before = append-nil before
  stays (suc more) before = stays more (before ++ []) ∙ append-nil before

  -- what the first ones of some open is among others
  abbrev Opens : List ℕ → List ℕ → Type 0
  Opens some others = (f child : ℕ) → Has (firsts nodes false [] some) f → Has (opened nodes f) child → Has others child

  -- so many layers behind what these open, what all open is among all
  abbrev Whole : ℕ → List ℕ → List ℕ → Type 0
  Whole more before new = Opens (layers nodes more before (all_opened nodes new)) (layers nodes more before (all_opened nodes new))

  closes : (more : ℕ) (before layer : List ℕ) → length nodes ≤ length (firsts nodes false [] before) + more → Opens before (before ++ layer) → Opens (layers nodes more before layer) (layers nodes more before layer)
  closes zero before layer enough so_far =
      λ f child h opens. none (firsts nodes false before layer) refl f child (has_cases (firsts nodes false [] before) (firsts nodes false before layer) f (subst (λ (l : List ℕ). Has l f) (firsts_append [] before layer) h)) opens
    where
      none : (new : List ℕ) → firsts nodes false before layer ≡ new → (f child : ℕ) → Has (firsts nodes false [] before) f ⊎ Has (firsts nodes false before layer) f → Has (opened nodes f) child → Has (before ++ layer) child
      none new is f child (inl h) opens = so_far f child h opens
      none [] is f child (inr h) opens = absurd (subst (λ (l : List ℕ). Has l f) is h)
      none (g ∷ gs) is f child (inr h) opens =
          let all = ap length (firsts_append [] before layer) ∙ length-append (firsts nodes false [] before) (firsts nodes false before layer) in
          let some = ap length is in
          absurd (omega (arith, few (before ++ layer), all, some, enough))
  closes (suc more) before layer enough so_far = next (firsts nodes false before layer) refl (λ new. closes more (before ++ layer) (all_opened nodes new))
    where
      all : length (firsts nodes false [] (before ++ layer)) ≡ length (firsts nodes false [] before) + length (firsts nodes false before layer)
      all = ap length (firsts_append [] before layer) ∙ length-append (firsts nodes false [] before) (firsts nodes false before layer)

      opens_on : (new : List ℕ) → firsts nodes false before layer ≡ new → Opens (before ++ layer) ((before ++ layer) ++ all_opened nodes new)
      opens_on new is f child h opens = by (has_cases (firsts nodes false [] before) (firsts nodes false before layer) f (subst (λ (l : List ℕ). Has l f) (firsts_append [] before layer) h))
        where
          by : Has (firsts nodes false [] before) f ⊎ Has (firsts nodes false before layer) f → Has ((before ++ layer) ++ all_opened nodes new) child
          by (inl h) = has_left (before ++ layer) (all_opened nodes new) child (so_far f child h opens)
          by (inr h) = has_right (before ++ layer) (all_opened nodes new) child (opens_all new f child (subst (λ (l : List ℕ). Has l f) is h) opens)

      next : (new : List ℕ) → firsts nodes false before layer ≡ new
          → ((new : List ℕ) → length nodes ≤ length (firsts nodes false [] (before ++ layer)) + more → Opens (before ++ layer) ((before ++ layer) ++ all_opened nodes new) → Whole more (before ++ layer) new)
          → Whole more (before ++ layer) (firsts nodes false before layer)
      next [] is on =
          subst (Whole more (before ++ layer)) (sym is)
          (subst (λ (end : List ℕ). Opens end end) (sym (stays more (before ++ layer)))
          (λ f child h opens. subst (λ (l : List ℕ). Has l child) (append-nil (before ++ layer)) (opens_on [] is f child h opens)))
      next (g ∷ gs) is on =
          let some = ap length is in
          subst (Whole more (before ++ layer)) (sym is) (on (g ∷ gs) (omega (arith, all, some, enough)) (opens_on (g ∷ gs) is))

  at_node : (at : ℕ) (o : Option Node) → slice_get nodes at ≡ o → IsSomeAnd o (λ node. node.specialized ≡ false) → (node : Node) × (slice_get nodes at ≡ Some node) × (node.specialized ≡ false)
  at_node at None is such = absurd such
  at_node at (Some node) is such = (node, is, such)

  pub reached_closed : IsClosed nodes (reached nodes)
  reached_closed at child within such opens =
      let node = at_node at (slice_get nodes at) refl such in
      let closed : Opens (reached nodes) (reached nodes) = closes (length nodes) [] (children nodes None) (omega arith) (λ f child h opens. absurd h) in
      by closed (stands_for at node.0 node.1 node.2 [] (reached nodes) (from_contains (reached nodes) at within.0 within.1 within.2))
    where
      by : Opens (reached nodes) (reached nodes) → StandsFor (firsts nodes false [] (reached nodes)) at ⊎ (false ≡ true) → Contains (reached nodes) child
      by closed (inl stands) = to_contains (reached nodes) child (closed stands.0 child stands.1 (subst (λ (l : List ℕ). Has l child) (sym stands.2) (from_contains (opened nodes at) child opens.0 opens.1 opens.2)))
      by closed (inr none) = absurd (false≢true none)
