-- A rocket as contracts see it.
use Rattle.std.specs.Prelude.{ℕ, List}
use Rattle.rkt_exchange.specs.Tables.{SeenTables}
use Rattle.rkt_turn.specs.Shutdown.{Handle}

-- F is the type of fairings, H that of handlers, K that of catchers' handlers, N that of what sentries ask, V that of managed
-- values
pub record SeenRocket (F H K N V : Type 0) : Type 0 where
  pub tables : SeenTables F H K N V
  -- the names with their texts that the configuration was read of
  pub table : List (List ℕ × List ℕ)
  -- the handle of its wire
  pub handle : Handle
