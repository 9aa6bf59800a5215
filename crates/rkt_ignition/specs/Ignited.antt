-- What comes of an ignition: what a rocket may be launched with, or why it is refused.
use Rattle.std.specs.Prelude.{◌≡◌, ◌≢◌, ℕ, [], List, Bool, None, Some, map}
use Rattle.rkt_http.specs.declared.key.Key.{Key}
use Rattle.rkt_config.specs.Config.{IsConfig, first_bad}
use Rattle.rkt_route.specs.Collisions.{AreCollisions, CatchersCollide, RoutesCollide}
use Rattle.rkt_route.specs.declared.route.Sentry.{Sentry}
use Rattle.rkt_router.specs.Router.{SeenRouter}
use Rattle.rkt_ignition.specs.Sentinels.{SeenIgnited}
use Rattle.rkt_fairing.specs.Building.{SeenBuilding}
use Rattle.rkt_fairing.specs.Info.{SeenInfo, seen_info}
use Rattle.rkt_ignition.specs.Aborted.{aborted_at, sentries_of}
use Rattle.rkt_ignition.specs.Calls.{CallingAtIgnition, SeenCall}
use Rattle.rkt_ignition.specs.Ignites.{Igniting, IgnitesAll, IgnitesTooMany, igniting}
use Rattle.rkt_ignition.specs.Reached.{IsQueried}
use Rattle.rkt_ignition.specs.declared.error.IgniteError.{IgniteError}
use Rattle.rkt_ignition.specs.declared.error.IgniteError.TheVariants.{IgniteLimit, FailedFairings, Config, Collisions, SentinelAborts}
use Rattle.rkt_ignition.specs.declared.parts.IgnitedPartsOf.{IgnitedPartsOf}

-- H is the type of handlers, K that of catchers' handlers, N that of what sentries ask, V that of managed values, F that of
-- the application's fairings, Task that of their tasks

-- the routes and catchers that were built, in order
abbrev pub router_of : {H K N V F : Type 0} → SeenBuilding H K N V F → SeenRouter H K N
router_of building = record { routes = building.routes; catchers = building.catchers }

-- it has the routes and catchers that were built, the fairings that are attached, the managed values, and the configuration
-- that the table spells, none of whose texts leaves its grammar
pub record IsMadeOf {H K N V F : Type 0} (end : Igniting H K N V F) (parts : IgnitedPartsOf F H K N V) : Type 0 where
  pub router : parts.router ≡ router_of end.building
  pub fairings : parts.fairings ≡ end.attached
  pub managed : parts.managed ≡ end.building.managed
  pub table : parts.table ≡ end.building.table
  pub config : IsConfig end.building.table parts.config
  pub accepted : first_bad end.building.table ≡ None

-- no two routes and no two catchers collide
pub record NoneCollide {H K N : Type 0} (router : SeenRouter H K N) : Type 0 where
  pub routes : AreCollisions RoutesCollide router.routes []
  pub catchers : AreCollisions CatchersCollide router.catchers []

-- no two of it collide, and no sentry aborts; May says what a sentry may answer
pub record IsAccepted {H K N V F : Type 0} (May : N → SeenIgnited V → Bool → Type 0)
    (parts : IgnitedPartsOf F H K N V) : Type 0 where
  pub none_collide : NoneCollide parts.router
  pub none_abort : IsQueried May (sentries_of parts.router.routes)
      (record { config = parts.config; managed = parts.managed }) []

-- the first text of a table that is not what its name takes
abbrev pub RefusesTable : List (List ℕ × List ℕ) → IgniteError → Type 0
RefusesTable table (Config bad) = first_bad table ≡ Some (bad.name, bad.text)
RefusesTable table (IgniteLimit calls) = ⊥
RefusesTable table (FailedFairings infos calls) = ⊥
RefusesTable table (Collisions found) = ⊥
RefusesTable table (SentinelAborts aborted) = ⊥

-- all pairs of routes and of catchers that collide, of which there are some
abbrev pub RefusesRouter : {H K N : Type 0} → SeenRouter H K N → IgniteError → Type 0
RefusesRouter router (Collisions found) =
    AreCollisions RoutesCollide router.routes found.routes
    × AreCollisions CatchersCollide router.catchers found.catchers
    × ¬ ((found.routes ≡ []) × (found.catchers ≡ []))
RefusesRouter router (IgniteLimit calls) = ⊥
RefusesRouter router (FailedFairings infos calls) = ⊥
RefusesRouter router (Config bad) = ⊥
RefusesRouter router (SentinelAborts aborted) = ⊥

-- what the sentries tell that abort, of which there are some, in the order in which they are reached
abbrev pub RefusesSentries : {N V : Type 0} → (N → SeenIgnited V → Bool → Type 0) → List (Sentry N) → SeenIgnited V
    → IgniteError → Type 0
RefusesSentries May sentries rocket (SentinelAborts aborted) =
    (positions : List ℕ)
    × IsQueried May sentries rocket positions
    × (positions ≢ [])
    × (aborted ≡ aborted_at sentries positions)
RefusesSentries May sentries rocket (IgniteLimit calls) = ⊥
RefusesSentries May sentries rocket (FailedFairings infos calls) = ⊥
RefusesSentries May sentries rocket (Config bad) = ⊥
RefusesSentries May sentries rocket (Collisions found) = ⊥

-- no two of it collide, but sentries abort, or some collide
abbrev pub RefusesParts : {H K N V F : Type 0} → (N → SeenIgnited V → Bool → Type 0) → IgnitedPartsOf F H K N V → IgniteError
    → Type 0
RefusesParts May parts (Collisions found) = RefusesRouter parts.router (Collisions found)
RefusesParts May parts (SentinelAborts aborted) =
    NoneCollide parts.router
    × RefusesSentries May (sentries_of parts.router.routes) (record { config = parts.config; managed = parts.managed })
    (SentinelAborts aborted)
RefusesParts May parts (IgniteLimit calls) = ⊥
RefusesParts May parts (FailedFairings infos calls) = ⊥
RefusesParts May parts (Config bad) = ⊥

-- Why what the fairings left is refused: its table; or, where a configuration was read of that, routes or catchers that
-- collide; or, where none do, sentries that abort.
abbrev pub RefusesLeft : {H K N V F : Type 0} → (N → SeenIgnited V → Bool → Type 0) → Igniting H K N V F → IgniteError → Type 0
RefusesLeft May end (Config bad) = RefusesTable end.building.table (Config bad)
RefusesLeft {H = H} {K = K} {N = N} {V = V} {F = F} May end (Collisions found) =
    (parts : IgnitedPartsOf F H K N V) × IsMadeOf end parts × RefusesParts May parts (Collisions found)
RefusesLeft {H = H} {K = K} {N = N} {V = V} {F = F} May end (SentinelAborts aborted) =
    (parts : IgnitedPartsOf F H K N V) × IsMadeOf end parts × RefusesParts May parts (SentinelAborts aborted)
RefusesLeft May end (IgniteLimit calls) = ⊥
RefusesLeft May end (FailedFairings infos calls) = ⊥

module _ {H K N V F Task : Type 0} (calling : CallingAtIgnition H K N V F Task) (key : F → Key) (info : F → SeenInfo)
    (May : N → SeenIgnited V → Bool → Type 0) (building : SeenBuilding H K N V F) where
  -- all that waited were called, with these calls, and none failed
  pub record Passes (calls : List SeenCall) (end : Igniting H K N V F) : Type 0 where
    pub all : IgnitesAll calling key info (igniting building) calls end
    pub none_failed : end.attached.failures ≡ []

  -- the fairings passed, and what they left is what this is made of, and is accepted
  pub record IsIgnited (parts : IgnitedPartsOf F H K N V) : Type 0 where
    pub calls : List SeenCall
    pub end : Igniting H K N V F
    pub passes : Passes calls end
    pub made : IsMadeOf end parts
    pub accepted : IsAccepted May parts

  -- Why it is refused: as many callbacks were called as may be, and another waits; or a call was not Done, or a singleton came
  -- after one of its key had ignited, and these are all that failed, in that order; or the fairings passed, and what they left
  -- is refused.
  abbrev pub IsRefused : IgniteError → Type 0
  IsRefused (IgniteLimit calls) = (now : Igniting H K N V F) × IgnitesTooMany calling key info (igniting building) calls now
  IsRefused (FailedFairings infos calls) =
      (end : Igniting H K N V F)
      × IgnitesAll calling key info (igniting building) calls end
      × (map seen_info infos ≡ end.attached.failures)
      × (end.attached.failures ≢ [])
  IsRefused (Config bad) =
      (calls : List SeenCall) × (end : Igniting H K N V F) × Passes calls end × RefusesLeft May end (Config bad)
  IsRefused (Collisions found) =
      (calls : List SeenCall) × (end : Igniting H K N V F) × Passes calls end × RefusesLeft May end (Collisions found)
  IsRefused (SentinelAborts aborted) =
      (calls : List SeenCall) × (end : Igniting H K N V F) × Passes calls end × RefusesLeft May end (SentinelAborts aborted)
