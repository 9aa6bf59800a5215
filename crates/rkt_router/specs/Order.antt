-- The order in which routes are tried, as a list of their positions.
use Rattle.std.specs.Prelude.{◌≤◌, ◌<◌, ℕ, List, Option, Some, None, length, slice_index}
use Rattle.std.specs.List.{AllPairs}
use Rattle.rkt_request.specs.Seen.{Seen}
use Rattle.rkt_router.specs.Tries.{Before, Behind, MatchesAt}
use Rattle.rkt_route.specs.declared.route.Route.{Route}

-- each of these positions is tried before those that stand behind it
pub record IsSorted {H S : Type 0} (routes : List (Route H S)) (order : List ℕ) : Type 0 where
  pub pairs : AllPairs (Before routes) order

-- what stands from this place on comes behind a position, and what stands before it does not
pub record IsPlaceBehind {H S : Type 0} (routes : List (Route H S)) (order : List ℕ) (after : Option ℕ)
    (place : ℕ) : Type 0 where
  pub within : place ≤ length order
  pub front : (k : ℕ) → k < place → ¬ Behind routes after (slice_index order k)
  pub behind : (k : ℕ) → place ≤ k → k < length order → Behind routes after (slice_index order k)

-- at this place stands the first position whose route matches, from a place on
pub record IsFirstAt {H S V : Type 0} (routes : List (Route H S)) (order : List ℕ) (request : Seen V)
    (from place : ℕ) : Type 0 where
  pub behind : from ≤ place
  pub within : place < length order
  pub matching : MatchesAt routes request (slice_index order place)
  pub skipped : (k : ℕ) → from ≤ k → k < place → ¬ MatchesAt routes request (slice_index order k)

-- the place of the first position whose route matches, from a place on, if there is one
abbrev pub IsFirstMatch : {H S V : Type 0} → List (Route H S) → List ℕ → Seen V → ℕ → Option ℕ → Type 0
IsFirstMatch routes order request from None =
    (k : ℕ) → from ≤ k → k < length order → ¬ MatchesAt routes request (slice_index order k)
IsFirstMatch routes order request from (Some place) = IsFirstAt routes order request from place
