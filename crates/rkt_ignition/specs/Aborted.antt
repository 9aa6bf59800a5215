-- What is told of sentries that abort.
use Rattle.std.specs.Prelude.{◌∷◌, ◌++◌, ℕ, [], List, slice_get}
use Rattle.std.specs.Option.{option_map_or}
use Rattle.rkt_route.specs.declared.route.Route.{Route}
use Rattle.rkt_route.specs.declared.route.Sentry.{Sentry}

-- H is the type of handlers, N that of what sentries ask

-- a sentinel that is to abort the launch: its type, and where it stands
pub record SeenAborted : Type 0 where
  pub type_name : List ℕ
  pub file : List ℕ
  pub line : ℕ
  pub column : ℕ

-- what a sentry tells
abbrev pub told_by : {N : Type 0} → Sentry N → SeenAborted
told_by sentry = record {
  type_name = sentry.type_name.now;
  file = sentry.location.0.now;
  line = sentry.location.1;
  column = sentry.location.2;
}

-- what the one at a position tells, and what those at these positions do
abbrev pub told_at : {N : Type 0} → List (Sentry N) → ℕ → List SeenAborted
told_at sentries at = option_map_or (λ sentry. told_by sentry ∷ []) (slice_get sentries at) []

abbrev pub aborted_at : {N : Type 0} → List (Sentry N) → List ℕ → List SeenAborted
aborted_at sentries [] = []
aborted_at sentries (at ∷ rest) = told_at sentries at ++ aborted_at sentries rest

-- those of all routes, in mounting order
abbrev pub sentries_of : {H N : Type 0} → List (Route H N) → List (Sentry N)
sentries_of [] = []
sentries_of (route ∷ routes) = route.sentinels ++ sentries_of routes
