-- What a closed board leaves of a launch.
use Rattle.std.specs.Prelude.{◌≡◌, ℕ, List}
use Rattle.rkt_board.specs.declared.closing.ClosedOf.{ClosedOf}
use Rattle.rkt_exchange.specs.Tables.{SeenTables}
use Rattle.rkt_life.specs.Rocket.{SeenRocket}
use Rattle.rkt_turn.specs.HandsBack.{HandsBack}
use Rattle.rkt_turn.specs.Shutdown.{Handle}
use Rattle.rkt_serve.specs.declared.error.LaunchedOf.{LaunchedOf}

-- listener, clock and history of a closed board, and a rocket with these tables whose handle comes back
pub record IsLeft {F H K N V L C R : Type 0} (tables : SeenTables F H K N V) (table : List (List ℕ × List ℕ))
    (closed : ClosedOf L C Handle R) (launched : LaunchedOf (SeenRocket F H K N V) L C R) : Type 0 where
  pub tables_are : launched.rocket.tables ≡ tables
  pub table_is : launched.rocket.table ≡ table
  pub handle : HandsBack closed.handle launched.rocket.handle
  pub listener : launched.listener ≡ closed.listener
  pub clock : launched.clock ≡ closed.clock
  pub history : launched.history ≡ closed.history
