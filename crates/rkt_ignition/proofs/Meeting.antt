-- That routes which match one request, or catchers for the same, collide.
use Rattle.std.proofs.Common.{◌≡◌, ◌≢◌, ◌≤◌, ◌<◌, ◌+◌, ◌⊎◌, ◌∷◌, ◌++◌, ◌∙◌, ℕ, suc, zero, [], List, Bool, true, false, Option, None, Some, not, ap, arith, codes, cond, inl, inr, length, refl, subst, sym}
use Rattle.std.specs.List.{IsAmong, slice_get, take_while}
use Rattle.std.specs.Str.{bytes_eq, str_to_ascii_lowercase}
use Rattle.std.specs.Cmp.Lexicographic.{bytes_decides}
use Rattle.std.proofs.lemmas.Bool.{true≢false}
use Rattle.std.proofs.lemmas.List.Sums.{take_while-cons}
use Rattle.rkt_media.specs.Media.{Media, part_specificity, specificity_of}
use Rattle.rkt_http.specs.Method.{carries_payload}
use Rattle.rkt_request.specs.Seen.{HasOneFormat, Seen}
use Rattle.rkt_route.specs.Collisions.{AreCollisions, CatchersCollide, FormatsCollide, FormatsMeet, MayEnd, MediaCollide, PartsCollide, PathsCollide, RoutesCollide, SegmentsMeet}
use Rattle.rkt_route.specs.declared.catcher.Catcher.{Catcher}
use Rattle.rkt_route.specs.declared.route.Route.{Route}
use Rattle.rkt_route.specs.declared.segment.Segment.{Segment}
use Rattle.rkt_router.specs.Tries.{Agrees, EndsTrailing, FormatFits, FormatMatches, Matches, PathMatches}
use Rattle.rkt_ignition.specs.Laws.{AtMostOneCatches, RanksDiffer}

by_bool : {X : Type 0} (b : Bool) → (b ≡ true → X) → (b ≡ false → X) → X
by_bool true is_so is_not = is_so refl
by_bool false is_so is_not = is_not refl

-- the last segment is trailing, behind one that is not
ends_from : (s : Segment) (ss front : List Segment) (last : Segment) → s.trailing ≡ false → s ∷ ss ≡ front ++ last ∷ [] → last.trailing ≡ true → EndsTrailing ss
ends_from s ss [] last plain is trailing =
    let same : s ≡ last = cc is in
    absurd (true≢false (sym trailing ∙ ap (λ (x : Segment). x.trailing) (sym same) ∙ plain))
ends_from s ss (f ∷ front) last plain is trailing = (front, last, cc is, trailing)

ends_behind : (s : Segment) (ss : List Segment) → s.trailing ≡ false → EndsTrailing (s ∷ ss) → EndsTrailing ss
ends_behind s ss plain (front, last, is, trailing) = ends_from s ss front last plain is trailing

no_end : EndsTrailing [] → ⊥
no_end ([], last, is, trailing) = cc is
no_end (f ∷ front, last, is, trailing) = cc is

-- what is left of a match behind a segment that is not trailing
step : (s : Segment) (ss : List Segment) (name : List ℕ) (names : List (List ℕ)) → s.trailing ≡ false → PathMatches (s ∷ ss) (name ∷ names) → (s.dynamic ≡ false → s.value ≡ name) × PathMatches ss names
step s ss name names plain matches =
    let first : take_while (λ (t : Segment). not t.trailing) (s ∷ ss) ≡ s ∷ take_while (λ (t : Segment). not t.trailing) ss =
    take_while-cons (λ (t : Segment). not t.trailing) s ss ∙ ap (λ (b : Bool). cond (not b) (s ∷ take_while (λ (t : Segment). not t.trailing) ss) []) plain in
    let agrees = subst (λ (l : List Segment). Agrees l (name ∷ names)) first matches.agrees in
    (agrees.0, record { lengths = lengths matches.lengths; agrees = agrees.1 })
  where
    lengths : (length (name ∷ names) ≡ length (s ∷ ss)) ⊎ (EndsTrailing (s ∷ ss) × (length (s ∷ ss) ≤ length (name ∷ names) + 1)) → (length names ≡ length ss) ⊎ (EndsTrailing ss × (length ss ≤ length names + 1))
    lengths (inl same) = inl (omega (arith, same))
    lengths (inr (ends, less)) = inr (ends_behind s ss plain ends, omega (arith, less))

-- a segment that is not trailing needs a name
no_name : (s : Segment) (ss : List Segment) → s.trailing ≡ false → PathMatches (s ∷ ss) [] → ⊥
no_name s ss plain matches = by_lengths ss matches.lengths
  where
    by_lengths : (ss : List Segment) → (length {A = List ℕ} [] ≡ length (s ∷ ss)) ⊎ (EndsTrailing (s ∷ ss) × (length (s ∷ ss) ≤ length {A = List ℕ} [] + 1)) → ⊥
    by_lengths ss (inl same) = omega (arith, same)
    by_lengths [] (inr (ends, less)) = no_end (ends_behind s [] plain ends)
    by_lengths (t ∷ ss) (inr (ends, less)) = omega (arith, less)

-- no segment takes no name
no_more : (names : List (List ℕ)) → PathMatches [] names → names ≡ []
no_more [] matches = refl
no_more (name ∷ names) matches = by_lengths matches.lengths
  where
    by_lengths : (length (name ∷ names) ≡ length {A = Segment} []) ⊎ (EndsTrailing [] × (length {A = Segment} [] ≤ length (name ∷ names) + 1)) → name ∷ names ≡ []
    by_lengths (inl same) = absurd (omega (arith, same))
    by_lengths (inr (ends, less)) = absurd (no_end ends)

may_end : (ss : List Segment) → PathMatches ss [] → MayEnd ss
may_end [] matches = tt
may_end (s ∷ ss) matches = by_bool s.trailing (λ trailing. trailing) (λ plain. absurd (no_name s ss plain matches))

segments_meet : (a b : Segment) (name : List ℕ) → (a.dynamic ≡ false → a.value ≡ name) → (b.dynamic ≡ false → b.value ≡ name) → SegmentsMeet a b
segments_meet a b name is_a is_b = by_bool a.dynamic (λ dynamic. inl dynamic) (λ static_a. by_bool b.dynamic (λ dynamic. inr (inl dynamic)) (λ static_b. inr (inr (is_a static_a ∙ sym (is_b static_b)))))

-- two lists of segments that match one path collide
paths_meet : (xs ys : List Segment) (names : List (List ℕ)) → PathMatches xs names → PathMatches ys names → PathsCollide xs ys
paths_meet [] ys names one other = may_end ys (subst (PathMatches ys) (no_more names one) other)
paths_meet (x ∷ xs) [] names one other = may_end (x ∷ xs) (subst (PathMatches (x ∷ xs)) (no_more names other) one)
paths_meet (x ∷ xs) (y ∷ ys) [] one other =
    by_bool x.trailing (λ trailing. inl trailing) (λ plain. absurd (no_name x xs plain one))
paths_meet (x ∷ xs) (y ∷ ys) (name ∷ names) one other =
    by_bool x.trailing (λ trailing. inl trailing)
    (λ plain_x. by_bool y.trailing (λ trailing. inr (inl trailing))
    (λ plain_y.
    let left = step x xs name names plain_x one in
    let right = step y ys name names plain_y other in
    inr (inr (segments_meet x y name left.0 right.0, paths_meet xs ys names left.1 right.1))))

-- two parts that collide with one that is no star collide
parts_meet : (a b f : List ℕ) → f ≢ codes "*" → PartsCollide a f → PartsCollide b f → PartsCollide a b
parts_meet a b f no_star (inl same_a) (inl same_b) =
    let low : List ℕ → List ℕ = str_to_ascii_lowercase in
    let is_a : low a ≡ low f = (bytes_decides (low a) (low f)).0 same_a in
    let is_b : low b ≡ low f = (bytes_decides (low b) (low f)).0 same_b in
    inl ((bytes_decides (low a) (low b)).1 (is_a ∙ sym is_b))
parts_meet a b f no_star (inl same_a) (inr (inl star)) = inr (inr star)
parts_meet a b f no_star (inl same_a) (inr (inr star)) = absurd (no_star star)
parts_meet a b f no_star (inr (inl star)) other = inr (inl star)
parts_meet a b f no_star (inr (inr star)) other = absurd (no_star star)

star_is : (part : List ℕ) → part ≡ codes "*" → part_specificity part ≡ 0
star_is part is = rw is refl

at_most_one : (part : List ℕ) → part_specificity part ≤ 1
at_most_one part = by_bool (bytes_eq part (codes "*")) (λ t. rw t (omega arith)) (λ t. rw t (omega arith))

media_meet : (a b f : Media) → specificity_of f ≡ 2 → MediaCollide a f → MediaCollide b f → MediaCollide a b
media_meet a b f both one other =
    let top : f.top ≢ codes "*" = λ star. omega (arith, both, star_is f.top star, at_most_one f.sub) in
    let sub : f.sub ≢ codes "*" = λ star. omega (arith, both, star_is f.sub star, at_most_one f.top) in
    (parts_meet a.top b.top f.top top one.0 other.0, parts_meet a.sub b.sub f.sub sub one.1 other.1)

found_meet : (a b : Media) (f g : Option Media) → f ≡ g → FormatFits a true f → FormatFits b true g → MediaCollide a b
found_meet a b (Some f) (Some g) same one other =
    let is : g ≡ f = cc same in
    media_meet a b f one.0 one.1 (subst (MediaCollide b) is other.1)
found_meet a b (Some f) None same one other = absurd other
found_meet a b None g same one other = absurd one

module _ {V : Type 0} (request : Seen V) (one_format : HasOneFormat request) where
  formats_meet : (a b : Option Media) → carries_payload request.method ≡ true → FormatMatches a request → FormatMatches b request → FormatsMeet a b
  formats_meet None b payload one other = tt
  formats_meet (Some a) None payload one other = tt
  formats_meet (Some a) (Some b) payload one other =
      found_meet a b one.0 other.0 (one_format one.0 other.0 one.1 other.1) (subst (λ (p : Bool). FormatFits a p one.0) payload one.2) (subst (λ (p : Bool). FormatFits b p other.0) payload other.2)

  formats_collide : (a b : Option Media) (p : Bool) → carries_payload request.method ≡ p → FormatMatches a request → FormatMatches b request → FormatsCollide p a b
  formats_collide a b true payload one other = formats_meet a b payload one other
  formats_collide a b false payload one other = tt

  routes_meet : {H N : Type 0} (a b : Route H N) → Matches a request → Matches b request → a.rank ≡ b.rank → RoutesCollide a b
  routes_meet a b one other rank = record {
    method = sym one.method ∙ other.method;
    rank = rank;
    paths = paths_meet _ _ _ one.path other.path;
    formats = formats_collide a.format b.format _ (ap carries_payload one.method) one.format other.format;
  }

apart : (p q : ℕ) → p ≢ q → (p < q) ⊎ (q < p)
apart zero zero differ = absurd (differ refl)
apart zero (suc q) differ = inl (omega arith)
apart (suc p) zero differ = inr (omega arith)
apart (suc p) (suc q) differ = more (apart p q (λ same. differ (ap suc same)))
  where
    more : (p < q) ⊎ (q < p) → (suc p < suc q) ⊎ (suc q < suc p)
    more (inl less) = inl (omega (arith, less))
    more (inr less) = inr (omega (arith, less))

-- no two items collide where none are among those that do
module _ {X : Type 0} (Collide : X → X → Type 0) (items : List X) (none : AreCollisions Collide items []) where
  none_among : (pair : ℕ × ℕ) → IsAmong [] pair → ⊥
  none_among pair (i, at) = omega (arith, at.0)

  in_order : (p q : ℕ) (a b : X) → slice_get items p ≡ Some a → slice_get items q ≡ Some b → p < q → Collide a b → ⊥
  in_order p q a b is_a is_b less collide =
      none_among (p, q) ((none.colliding (p, q)).1 (less, rw is_a (rw is_b collide)))

  none_collide : (p q : ℕ) (a b : X) → slice_get items p ≡ Some a → slice_get items q ≡ Some b → p ≢ q → Collide a b → Collide b a → ⊥
  none_collide p q a b is_a is_b differ one other = by_order (apart p q differ)
    where
      by_order : (p < q) ⊎ (q < p) → ⊥
      by_order (inl less) = in_order p q a b is_a is_b less one
      by_order (inr less) = in_order q p b a is_b is_a less other

pub ranks_do_differ : {H N V : Type 0} (routes : List (Route H N)) (request : Seen V) → AreCollisions RoutesCollide routes [] → HasOneFormat request → RanksDiffer routes request
ranks_do_differ routes request none one_format = λ p q a b is_a is_b differ one other rank.
    none_collide RoutesCollide routes none p q a b is_a is_b differ (routes_meet request one_format a b one other rank) (routes_meet request one_format b a other one (sym rank))

pub one_catches : {K : Type 0} (catchers : List (Catcher K)) → AreCollisions CatchersCollide catchers [] → AtMostOneCatches catchers
one_catches catchers none = λ p q a b is_a is_b differ code base.
    none_collide CatchersCollide catchers none p q a b is_a is_b differ (record { code = code; base = base }) (record { code = sym code; base = sym base })
