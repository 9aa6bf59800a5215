-- What is built of a rocket before it ignites.
use Rattle.std.specs.Prelude.{ℕ, List, []}
use Rattle.rkt_fairing.specs.Fairings.{SeenFairings, no_fairings}
use Rattle.rkt_route.specs.declared.catcher.Catcher.{Catcher}
use Rattle.rkt_route.specs.declared.route.Route.{Route}

-- H is the type of handlers, K that of catchers' handlers, N that of what sentries ask, V that of managed values, F that of
-- the application's fairings
pub record SeenBuilding (H K N V F : Type 0) : Type 0 where
  -- in mounting order
  pub routes : List (Route H N)
  -- in the order in which they were registered
  pub catchers : List (Catcher K)
  pub fairings : SeenFairings F
  -- by ascending keys
  pub managed : List (ℕ × V)
  -- the names with their texts that the configuration is read of
  pub table : List (List ℕ × List ℕ)

-- nothing but a table
abbrev pub building_of : {H K N V F : Type 0} → List (List ℕ × List ℕ) → SeenBuilding H K N V F
building_of table = record { routes = []; catchers = []; fairings = no_fairings; managed = []; table = table }
