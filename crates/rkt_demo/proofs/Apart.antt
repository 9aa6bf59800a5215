-- No two routes and no two catchers of the sample collide.
use Rattle.std.proofs.Common.{ap, refl, subst, ◌≡◌, ◌<◌, inl, inr, zero, suc, ℕ, List, [], ◌∷◌, Option, Some, None, false, length, map, slice_get, arith, codes, sym, ◌∙◌}
use Rattle.std.specs.Prelude.{IsSomeAnd}
use Rattle.std.specs.Option.{option_map}
use Rattle.std.proofs.lemmas.Option.{slice_get-map}
use Rattle.std.specs.Str.{chars, is_utf8}
use Rattle.std.specs.Str.Lossy.{utf8_lossy, utf8_valid_len}
use Rattle.percent_encoding.specs.Percent.{percent_decode}
use Rattle.rkt_route.specs.Collisions.{CatchersCollide, CollidesAt, PathsCollide, RoutesCollide}
use Rattle.rkt_route.specs.declared.segment.Segment.{Segment}
use Rattle.rkt_uri.specs.Origin.{segments_of}
use Rattle.rkt_sample.specs.Mounted.{all_catchers, all_routes, mounted_catcher, mounted_route, sample_catchers, sample_routes}
use Rattle.rkt_sample.specs.declared.catcher.SampleCatcher.{SampleCatcher}
use Rattle.rkt_sample.specs.declared.catcher.SampleCatcher.TheVariants.{NotFound, BadNotFound}
use Rattle.rkt_sample.specs.declared.route.SampleRoute.{SampleRoute}

-- X is the type of what may collide

-- one collides with none of a list, and none of a list collides with one behind it
abbrev Clear : {X : Type 0} → (X → X → Type 0) → X → List X → Type 0
Clear Collide one [] = Unit {0}
Clear Collide one (other ∷ others) = (Collide one other → ⊥) × Clear Collide one others

abbrev AllClear : {X : Type 0} → (X → X → Type 0) → List X → Type 0
AllClear Collide [] = Unit {0}
AllClear Collide (one ∷ others) = Clear Collide one others × AllClear Collide others

clear_at : {X : Type 0} (Collide : X → X → Type 0) (one : X) (others : List X) (q : ℕ) → Clear Collide one others → IsSomeAnd (slice_get others q) (Collide one) → ⊥
clear_at Collide one [] q clear here = here
clear_at Collide one (other ∷ others) zero clear here = clear.0 here
clear_at Collide one (other ∷ others) (suc q) clear here = clear_at Collide one others q clear.1 here

none_at : {X : Type 0} (Collide : X → X → Type 0) (items : List X) (p q : ℕ) → AllClear Collide items → p < q → IsSomeAnd (slice_get items p) (λ a. IsSomeAnd (slice_get items q) (Collide a)) → ⊥
none_at Collide [] p q clear less here = here
none_at Collide (one ∷ others) zero zero clear less here = absurd (omega (arith, less))
none_at Collide (one ∷ others) zero (suc q) clear less here = clear_at Collide one others q clear.0 here
none_at Collide (one ∷ others) (suc p) zero clear less here = absurd (omega (arith, less))
none_at Collide (one ∷ others) (suc p) (suc q) clear less here = none_at Collide others p q clear.1 (omega (arith, less)) here

abbrev first_byte : List ℕ → ℕ
first_byte [] = 0
first_byte (b ∷ bs) = b

abbrev first_length : List (List ℕ) → ℕ
first_length [] = 0
first_length (name ∷ names) = length name

abbrev code_or : Option ℕ → ℕ
code_or None = 0
code_or (Some code) = code

-- two routes of one static segment each, which differ
elsewhere : {a b : Segment} → (a.value ≡ b.value → ⊥) → a.trailing ≡ false → b.trailing ≡ false → a.dynamic ≡ false → b.dynamic ≡ false → PathsCollide (a ∷ []) (b ∷ []) → ⊥
elsewhere other at bt ad bd (inl h) = cc (at, h)
elsewhere other at bt ad bd (inr (inl h)) = cc (bt, h)
elsewhere other at bt ad bd (inr (inr (inl h, end))) = cc (ad, h)
elsewhere other at bt ad bd (inr (inr (inr (inl h), end))) = cc (bd, h)
elsewhere other at bt ad bd (inr (inr (inr (inr same), end))) = other same

routes_clear : AllClear (λ (a b : SampleRoute). RoutesCollide (mounted_route a) (mounted_route b)) all_routes
routes_clear = (
  (λ c. cc c.rank, (λ c. cc c.method, (λ c. cc c.method, (λ c. cc c.method, (λ c. cc c.method, (λ c. cc c.rank, (λ c. cc c.rank, (λ c. cc c.rank, (λ c. cc c.rank, (λ c. cc c.method, (λ c. cc c.rank, (λ c. cc c.rank, tt)))))))))))),
  (
    (λ c. cc c.method, (λ c. cc c.method, (λ c. cc c.method, (λ c. cc c.method, (λ c. cc c.rank, (λ c. cc c.rank, (λ c. elsewhere (λ s. let e : 112 ≡ 115 = ap first_byte s in omega (arith, e)) refl refl refl refl c.paths, (λ c. elsewhere (λ s. let e : 112 ≡ 102 = ap first_byte s in omega (arith, e)) refl refl refl refl c.paths, (λ c. cc c.method, (λ c. elsewhere (λ s. let e : 112 ≡ 115 = ap first_byte s in omega (arith, e)) refl refl refl refl c.paths, (λ c. elsewhere (λ s. let e : 112 ≡ 98 = ap first_byte s in omega (arith, e)) refl refl refl refl c.paths, tt))))))))))),
    (
      (λ c. elsewhere (λ s. let e : 112 ≡ 103 = ap first_byte s in omega (arith, e)) refl refl refl refl c.paths, (λ c. cc c.method, (λ c. cc c.method, (λ c. cc c.method, (λ c. cc c.method, (λ c. cc c.method, (λ c. cc c.method, (λ c. cc c.method, (λ c. cc c.method, (λ c. cc c.method, tt)))))))))),
      (
        (λ c. cc c.method, (λ c. cc c.method, (λ c. cc c.method, (λ c. cc c.method, (λ c. cc c.method, (λ c. cc c.method, (λ c. cc c.method, (λ c. cc c.method, (λ c. cc c.method, tt))))))))),
        (
          (λ c. cc c.method, (λ c. cc c.method, (λ c. cc c.method, (λ c. cc c.method, (λ c. cc c.method, (λ c. elsewhere (λ s. let e : 102 ≡ 101 = ap first_byte s in omega (arith, e)) refl refl refl refl c.paths, (λ c. cc c.method, (λ c. cc c.method, tt)))))))),
          (
            (λ c. cc c.method, (λ c. cc c.method, (λ c. cc c.method, (λ c. cc c.method, (λ c. cc c.method, (λ c. cc c.method, (λ c. cc c.method, tt))))))),
            (
              (λ c. cc c.rank, (λ c. cc c.rank, (λ c. cc c.rank, (λ c. cc c.method, (λ c. cc c.rank, (λ c. cc c.rank, tt)))))),
              (
                (λ c. cc c.rank, (λ c. cc c.rank, (λ c. cc c.method, (λ c. cc c.rank, (λ c. cc c.rank, tt))))),
                (
                  (λ c. elsewhere (λ s. let e : 115 ≡ 102 = ap first_byte s in omega (arith, e)) refl refl refl refl c.paths, (λ c. cc c.method, (λ c. elsewhere (λ s. let e : 7 ≡ 4 = ap length s in omega (arith, e)) refl refl refl refl c.paths, (λ c. elsewhere (λ s. let e : 115 ≡ 98 = ap first_byte s in omega (arith, e)) refl refl refl refl c.paths, tt)))),
                  (
                    (λ c. cc c.method, (λ c. elsewhere (λ s. let e : 102 ≡ 115 = ap first_byte s in omega (arith, e)) refl refl refl refl c.paths, (λ c. elsewhere (λ s. let e : 102 ≡ 98 = ap first_byte s in omega (arith, e)) refl refl refl refl c.paths, tt))),
                    (
                      (λ c. cc c.method, (λ c. cc c.method, tt)),
                      (
                        (λ c. elsewhere (λ s. let e : 115 ≡ 98 = ap first_byte s in omega (arith, e)) refl refl refl refl c.paths, tt),
                        (
                          tt,
                          tt,
                        ),
                      ),
                    ),
                  ),
                ),
              ),
            ),
          ),
        ),
      ),
    ),
  ),
)

-- the items at two positions, by what they are made of
mapped : {A X : Type 0} (make : A → X) (Collide : X → X → Type 0) (items : List A) (p q : ℕ) → IsSomeAnd (slice_get (map make items) p) (λ a. IsSomeAnd (slice_get (map make items) q) (Collide a))
    → IsSomeAnd (slice_get items p) (λ a. IsSomeAnd (slice_get items q) (λ b. Collide (make a) (make b)))
mapped make Collide items p q here =
    by_items (slice_get items p) (slice_get items q)
    (subst (λ (x : Option _). IsSomeAnd x (λ a. IsSomeAnd (option_map make (slice_get items q)) (Collide a))) (slice_get-map make items p)
    (subst (λ (y : Option _). IsSomeAnd (slice_get (map make items) p) (λ a. IsSomeAnd y (Collide a))) (slice_get-map make items q) here))
  where
    by_items : (a b : Option _) → IsSomeAnd (option_map make a) (λ x. IsSomeAnd (option_map make b) (Collide x)) → IsSomeAnd a (λ x. IsSomeAnd b (λ y. Collide (make x) (make y)))
    by_items None b h = absurd h
    by_items (Some a) None h = absurd h
    by_items (Some a) (Some b) h = h

pub no_routes_collide : (pair : ℕ × ℕ) → CollidesAt RoutesCollide sample_routes pair → ⊥
no_routes_collide pair at = none_at (λ (a b : SampleRoute). RoutesCollide (mounted_route a) (mounted_route b)) all_routes pair.0 pair.1 routes_clear at.0 (mapped mounted_route RoutesCollide all_routes pair.0 pair.1 at.1)

names_of_a : segments_of (mounted_catcher NotFound).base ≡ codes "a" ∷ []
unfolding percent_decode utf8_lossy utf8_valid_len is_utf8 chars lib.Utf8.encode
names_of_a = refl

names_of_bad : segments_of (mounted_catcher BadNotFound).base ≡ codes "bad" ∷ []
unfolding percent_decode utf8_lossy utf8_valid_len is_utf8 chars lib.Utf8.encode
names_of_bad = refl

catchers_clear : AllClear (λ (a b : SampleCatcher). CatchersCollide (mounted_catcher a) (mounted_catcher b)) all_catchers
catchers_clear = (
  (λ c. cc c.code, (λ c. let e : 1 ≡ 3 = ap first_length (sym names_of_a ∙ c.base ∙ names_of_bad) in omega (arith, e), (λ c. let e : 404 ≡ 500 = ap code_or c.code in omega (arith, e), tt))),
  (
    (λ c. cc c.code, (λ c. cc c.code, tt)),
    (
      (λ c. let e : 404 ≡ 500 = ap code_or c.code in omega (arith, e), tt),
      (
        tt,
        tt,
      ),
    ),
  ),
)

pub no_catchers_collide : (pair : ℕ × ℕ) → CollidesAt CatchersCollide sample_catchers pair → ⊥
no_catchers_collide pair at = none_at (λ (a b : SampleCatcher). CatchersCollide (mounted_catcher a) (mounted_catcher b)) all_catchers pair.0 pair.1 catchers_clear at.0 (mapped mounted_catcher CatchersCollide all_catchers pair.0 pair.1 at.1)
