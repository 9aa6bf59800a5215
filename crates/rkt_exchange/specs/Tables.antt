-- What an exchange goes by, as contracts see it.
use Rattle.std.specs.Prelude.{ℕ, List}
use Rattle.rkt_config.specs.declared.config.Config.{Config}
use Rattle.rkt_fairing.specs.Fairings.{SeenFairings}
use Rattle.rkt_router.specs.Router.{SeenRouter}
use Rattle.rkt_routing.specs.Table.{SeenTable}

-- F is the type of fairings, H that of handlers, K that of catchers' handlers, N that of what sentries ask, V that of managed
-- values
pub record SeenTables (F H K N V : Type 0) : Type 0 where
  pub router : SeenRouter H K N
  pub fairings : SeenFairings F
  -- what is lent to every request
  pub config : Config
  pub managed : List (ℕ × V)

-- what a request is routed by
abbrev pub table_of : {F H K N V : Type 0} → SeenTables F H K N V → SeenTable H K N
table_of tables = record { router = tables.router; turns = tables.config.turns }
