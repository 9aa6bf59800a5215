-- What is ignited whatever its callbacks do, as long as there is memory.
use Rattle.std.specs.Prelude.{◌≡◌, ℕ, [], List, Bool, None}
use Rattle.rkt_http.specs.declared.key.Key.{Key}
use Rattle.rkt_config.specs.declared.config.Config.{Config}
use Rattle.rkt_config.specs.Config.{IsConfig, first_bad}
use Rattle.rkt_route.specs.Collisions.{CatchersCollide, CollidesAt, RoutesCollide}
use Rattle.rkt_ignition.specs.Sentinels.{SeenIgnited}
use Rattle.rkt_fairing.specs.Building.{SeenBuilding}
use Rattle.rkt_fairing.specs.Info.{SeenInfo}
use Rattle.rkt_ignition.specs.Aborted.{sentries_of}
use Rattle.rkt_ignition.specs.Calls.{CallingAtIgnition, SeenCall}
use Rattle.rkt_ignition.specs.Ignites.{Igniting, IgnitesAll, IgnitesTooMany, igniting}
use Rattle.rkt_ignition.specs.Reached.{IsQueried}

-- H is the type of handlers, K that of catchers' handlers, N that of what sentries ask, V that of managed values, F that of
-- the application's fairings, Task that of their tasks

-- what the fairings leave is in order
pub record IsInOrder {H K N V F : Type 0} (May : N → SeenIgnited V → Bool → Type 0) (end : Igniting H K N V F) : Type 0 where
  -- each call was done, and no singleton came after one of its key had ignited
  pub none_failed : end.attached.failures ≡ []
  -- each setting takes its text
  pub settings : first_bad end.building.table ≡ None
  -- no two routes and no two catchers collide
  pub routes : (pair : ℕ × ℕ) → ¬ CollidesAt RoutesCollide end.building.routes pair
  pub catchers : (pair : ℕ × ℕ) → ¬ CollidesAt CatchersCollide end.building.catchers pair
  -- no sentry that is reached may answer that the launch is to be aborted
  pub sentries : (config : Config) (aborting : List ℕ)
      → IsConfig end.building.table config
      → IsQueried May (sentries_of end.building.routes) (record { config = config; managed = end.building.managed }) aborting
      → aborting ≡ []

module _ {H K N V F Task : Type 0} (calling : CallingAtIgnition H K N V F Task) (key : F → Key) (info : F → SeenInfo)
    (May : N → SeenIgnited V → Bool → Type 0) (building : SeenBuilding H K N V F) where
  -- whatever its callbacks answer, they are no more than may be called, and what they leave is in order
  pub record IsValid : Type 0 where
    pub few : (calls : List SeenCall) (now : Igniting H K N V F)
        → ¬ IgnitesTooMany calling key info (igniting building) calls now
    pub in_order : (calls : List SeenCall) (end : Igniting H K N V F)
        → IgnitesAll calling key info (igniting building) calls end
        → IsInOrder May end
