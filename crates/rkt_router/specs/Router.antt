-- A router as contracts see it.
use Rattle.std.specs.Prelude.{◌<◌, ◌↔◌, ℕ, List, length}
use Rattle.std.specs.List.{IsAmong}
use Rattle.rkt_router.specs.Order.{IsSorted}
use Rattle.rkt_route.specs.declared.catcher.Catcher.{Catcher}
use Rattle.rkt_route.specs.declared.route.Route.{Route}

-- H is the type of handlers, C that of catchers' handlers, S that of what sentries ask
pub record SeenRouter (H C S : Type 0) : Type 0 where
  -- in mounting order
  pub routes : List (Route H S)
  -- in the order in which they were registered
  pub catchers : List (Catcher C)

-- all positions, in the order in which routes are tried
pub record IsOrder {H S : Type 0} (routes : List (Route H S)) (order : List ℕ) : Type 0 where
  pub each : (position : ℕ) → IsAmong order position ↔ (position < length routes)
  pub sorted : IsSorted routes order
