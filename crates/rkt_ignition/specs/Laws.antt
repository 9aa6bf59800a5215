-- What holds of a router of which no two routes and no two catchers collide.
use Rattle.std.specs.Prelude.{◌≡◌, ◌≢◌, ℕ, List, Some, slice_get}
use Rattle.rkt_uri.specs.Origin.{segments_of}
use Rattle.rkt_request.specs.Seen.{Seen}
use Rattle.rkt_route.specs.declared.catcher.Catcher.{Catcher}
use Rattle.rkt_route.specs.declared.route.Route.{Route}
use Rattle.rkt_router.specs.Tries.{Matches}

-- H is the type of handlers, K that of catchers' handlers, N that of what sentries ask, V that of managed values

-- two different routes that match one request differ in rank
abbrev pub RanksDiffer : {H N V : Type 0} → List (Route H N) → Seen V → Type 0
RanksDiffer {H = H} {N = N} routes request =
    (p q : ℕ) (a b : Route H N)
    → slice_get routes p ≡ Some a
    → slice_get routes q ≡ Some b
    → p ≢ q
    → Matches a request
    → Matches b request
    → a.rank ≢ b.rank

-- at most one catcher has a code, or is for every one, below a base
abbrev pub AtMostOneCatches : {K : Type 0} → List (Catcher K) → Type 0
AtMostOneCatches {K} catchers =
    (p q : ℕ) (a b : Catcher K)
    → slice_get catchers p ≡ Some a
    → slice_get catchers q ≡ Some b
    → p ≢ q
    → a.code ≡ b.code
    → segments_of a.base ≢ segments_of b.base
