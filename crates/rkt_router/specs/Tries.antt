-- Which routes a request is tried on, and in which order.
use Rattle.std.specs.Prelude.{◌≡◌, ◌≤◌, ◌<◌, ◌<ℤ◌, ◌+◌, ◌⊎◌, ◌↔◌, ℕ, List, [], ◌∷◌, ◌++◌, Bool, true, false, not, Option, Some, None, IfSome, IsSomeAnd, length, slice_get, ⊤}
use Rattle.std.specs.List.{All, AllPairs, IsAmong, take_while}
use Rattle.rkt_media.specs.Media.{Media, specificity_of}
use Rattle.rkt_http.specs.Method.{carries_payload}
use Rattle.rkt_uri.specs.Origin.{fields_of, segments_of}
use Rattle.rkt_request.specs.Seen.{Seen, IsFormat}
use Rattle.rkt_route.specs.Collisions.{MediaCollide}
use Rattle.rkt_route.specs.RouteUri.{path_segments, static_fields}
use Rattle.rkt_route.specs.declared.route.Route.{Route}
use Rattle.rkt_route.specs.declared.segment.Segment.{Segment}

-- the last segment is trailing
abbrev pub EndsTrailing : List Segment → Type 0
EndsTrailing segments = (front : List Segment) × (last : Segment) × (segments ≡ front ++ last ∷ []) × (last.trailing ≡ true)

-- each static segment is the name in its place, as far as there are both
abbrev pub Agrees : List Segment → List (List ℕ) → Type 0
Agrees [] names = ⊤
Agrees (segment ∷ segments) [] = ⊤
Agrees (segment ∷ segments) (name ∷ names) = (segment.dynamic ≡ false → segment.value ≡ name) × Agrees segments names

-- a path has the segments of a route: as many, or where the last one is trailing at least all but that one; and before
-- any trailing segment each static one stands in its place
pub record PathMatches (segments : List Segment) (names : List (List ℕ)) : Type 0 where
  pub lengths : (length names ≡ length segments) ⊎ (EndsTrailing segments × (length segments ≤ length names + 1))
  pub agrees : Agrees (take_while (λ s. not s.trailing) segments) names

-- a format that a route asks for: with a payload the request has one without a star, which collides with it; and else the
-- two collide where the request has one
abbrev pub FormatFits : Media → Bool → Option Media → Type 0
FormatFits asked true found = IsSomeAnd found (λ media. (specificity_of media ≡ 2) × MediaCollide asked media)
FormatFits asked false found = IfSome found (MediaCollide asked)

-- the format of a request is what a route asks for, if it asks
abbrev pub FormatMatches : {V : Type 0} → Option Media → Seen V → Type 0
FormatMatches None request = ⊤
FormatMatches (Some asked) request =
    (found : Option Media) × IsFormat request found × FormatFits asked (carries_payload request.method) found

-- A route matches a request. H is the type of handlers, S that of what sentries ask, V that of managed values.
pub record Matches {H S V : Type 0} (route : Route H S) (request : Seen V) : Type 0 where
  pub method : request.method ≡ route.method
  pub path : PathMatches (path_segments route.uri.origin) (segments_of request.uri)
  -- each static field is among those of the request
  pub query : All (IsAmong (fields_of request.uri)) (static_fields route.uri.origin)
  pub format : FormatMatches route.format request

-- the route at a position matches
abbrev pub MatchesAt : {H S V : Type 0} → List (Route H S) → Seen V → ℕ → Type 0
MatchesAt routes request position = IsSomeAnd (slice_get routes position) (λ route. Matches route request)

-- one position is tried before another: its rank is lower, or equal and it was mounted first
abbrev pub Before : {H S : Type 0} → List (Route H S) → ℕ → ℕ → Type 0
Before routes p q = IsSomeAnd (slice_get routes p) (λ a.
    IsSomeAnd (slice_get routes q) (λ b. (a.rank <ℤ b.rank) ⊎ ((a.rank ≡ b.rank) × (p < q))))

-- the positions of the routes that match, in the order in which they are tried
pub record IsTries {H S V : Type 0} (routes : List (Route H S)) (request : Seen V) (tries : List ℕ) : Type 0 where
  pub matching : (position : ℕ) → IsAmong tries position ↔ MatchesAt routes request position
  pub ordered : AllPairs (Before routes) tries

-- a position comes behind another, or behind none, in the order in which routes are tried
abbrev pub Behind : {H S : Type 0} → List (Route H S) → Option ℕ → ℕ → Type 0
Behind routes None q = ⊤
Behind routes (Some p) q = Before routes p q

-- what is tried next behind a position: the first route that matches there, or none where none does
abbrev pub IsNextTry : {H S V : Type 0} → List (Route H S) → Seen V → Option ℕ → Option ℕ → Type 0
IsNextTry routes request after None = (q : ℕ) → MatchesAt routes request q → ¬ Behind routes after q
IsNextTry routes request after (Some p) = MatchesAt routes request p × Behind routes after p
    × ((q : ℕ) → MatchesAt routes request q → Behind routes after q → (p ≡ q) ⊎ Before routes p q)

-- what is tried one after another behind a position, or first
abbrev pub NextTries : {H S V : Type 0} → List (Route H S) → Seen V → Option ℕ → List ℕ → Type 0
NextTries routes request after [] = ⊤
NextTries routes request after (p ∷ tries) = IsNextTry routes request after (Some p) × NextTries routes request (Some p) tries

-- the same, where nothing is tried behind the last
abbrev pub AllNextTries : {H S V : Type 0} → List (Route H S) → Seen V → Option ℕ → List ℕ → Type 0
AllNextTries routes request after [] = IsNextTry routes request after None
AllNextTries routes request after (p ∷ tries) =
    IsNextTry routes request after (Some p) × AllNextTries routes request (Some p) tries

-- two requests are tried alike: they differ in nothing that a route asks for
pub record TriedAlike {V : Type 0} (one other : Seen V) : Type 0 where
  pub method : other.method ≡ one.method
  pub uri : other.uri ≡ one.uri
  pub headers : other.headers ≡ one.headers
