-- Which routes, and which catchers, would answer the same requests.
use Rattle.std.specs.Prelude.{◌≡◌, ◌<◌, ◌⊎◌, ◌↔◌, ℕ, List, [], ◌∷◌, true, false, Option, Some, None, Bool, IsSomeAnd, codes, slice_get, ⊤}
use Rattle.std.specs.List.{AllPairs, IsAmong}
use Rattle.std.specs.Str.{str_eq_ignore_ascii_case}
use Rattle.rkt_media.specs.Media.{Media}
use Rattle.rkt_http.specs.Method.{carries_payload}
use Rattle.rkt_uri.specs.Origin.{segments_of}
use Rattle.rkt_route.specs.RouteUri.{path_segments}
use Rattle.rkt_route.specs.declared.catcher.Catcher.{Catcher}
use Rattle.rkt_route.specs.declared.route.Route.{Route}
use Rattle.rkt_route.specs.declared.segment.Segment.{Segment}

-- two parts of media types are equal in any case, or one of them is a star
abbrev pub PartsCollide : List ℕ → List ℕ → Type 0
PartsCollide a b = (str_eq_ignore_ascii_case a b ≡ true) ⊎ (a ≡ codes "*") ⊎ (b ≡ codes "*")

-- some media type may be both
abbrev pub MediaCollide : Media → Media → Type 0
MediaCollide a b = PartsCollide a.top b.top × PartsCollide a.sub b.sub

-- some name may be both
abbrev pub SegmentsMeet : Segment → Segment → Type 0
SegmentsMeet a b = (a.dynamic ≡ true) ⊎ (b.dynamic ≡ true) ⊎ (a.value ≡ b.value)

-- no name has to come: none is left, or a trailing segment, which may take nothing
abbrev pub MayEnd : List Segment → Type 0
MayEnd [] = ⊤
MayEnd (segment ∷ segments) = segment.trailing ≡ true

-- some path may be both, pair by pair: a trailing segment takes all that is left
abbrev pub PathsCollide : List Segment → List Segment → Type 0
PathsCollide [] others = MayEnd others
PathsCollide (a ∷ more) [] = MayEnd (a ∷ more)
PathsCollide (a ∷ more) (b ∷ others) = (a.trailing ≡ true) ⊎ (b.trailing ≡ true) ⊎ (SegmentsMeet a b × PathsCollide more others)

-- with a payload two formats collide where both are there and some media type may be both, and where one is missing
abbrev pub FormatsMeet : Option Media → Option Media → Type 0
FormatsMeet (Some a) (Some b) = MediaCollide a b
FormatsMeet None b = ⊤
FormatsMeet a None = ⊤

-- without a payload they always do, since a client may accept anything
abbrev pub FormatsCollide : Bool → Option Media → Option Media → Type 0
FormatsCollide true a b = FormatsMeet a b
FormatsCollide false a b = ⊤

-- two routes of one rank may match the same request
pub record RoutesCollide {H S : Type 0} (a b : Route H S) : Type 0 where
  pub method : a.method ≡ b.method
  pub rank : a.rank ≡ b.rank
  pub paths : PathsCollide (path_segments a.uri.origin) (path_segments b.uri.origin)
  pub formats : FormatsCollide (carries_payload a.method) a.format b.format

-- two catchers are for the same statuses below the same base
pub record CatchersCollide {C : Type 0} (a b : Catcher C) : Type 0 where
  pub code : a.code ≡ b.code
  pub base : segments_of a.base ≡ segments_of b.base

-- the items at two positions, the second behind the first, collide
abbrev pub CollidesAt : {X : Type 0} → (X → X → Type 0) → List X → ℕ × ℕ → Type 0
CollidesAt Collide items pair =
    (pair.0 < pair.1) × IsSomeAnd (slice_get items pair.0) (λ a. IsSomeAnd (slice_get items pair.1) (Collide a))

-- one pair comes before another, by its first position and then by its second
abbrev pub PairBefore : ℕ × ℕ → ℕ × ℕ → Type 0
PairBefore p q = (p.0 < q.0) ⊎ ((p.0 ≡ q.0) × (p.1 < q.1))

-- all pairs that collide, in the order of their positions
pub record AreCollisions {X : Type 0} (Collide : X → X → Type 0) (items : List X) (pairs : List (ℕ × ℕ)) : Type 0 where
  pub colliding : (pair : ℕ × ℕ) → IsAmong pairs pair ↔ CollidesAt Collide items pair
  pub ordered : AllPairs PairBefore pairs
