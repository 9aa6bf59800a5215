-- What stands behind the events of a launch, by the tables that are lent to it.
use Rattle.std.specs.Prelude.{◌≡◌, ℕ, List, Option}
use Rattle.rkt_board.specs.Causes.{IsFree}
use Rattle.rkt_board.specs.declared.history.EventOf.{EventOf}
use Rattle.rkt_exchange.specs.Tables.{SeenTables}
use Rattle.rkt_worker.specs.Causes.{CauseAt}
use Rattle.rkt_worker.specs.Serving.{Launching}
use Rattle.rkt_worker.specs.declared.causes.Lent.{Lent}

-- these tables are lent, and these are the delays of their configuration
pub record IsLent {A F H K N V : Type 0} (lent : Lent A (SeenTables F H K N V)) (given : SeenTables F H K N V) : Type 0 where
  pub tables : lent.tables.value ≡ given
  pub grace : lent.grace ≡ given.config.grace
  pub mercy : lent.mercy ≡ given.config.mercy

module _ {A V S C R F FTask GTask STask H HTask K KTask N L : Type 0}
    (launches : Option (ℕ × ℕ) → Launching V S C R F FTask GTask STask H HTask K KTask N L) where
  -- what stands behind an event of a launch by the lent tables, under a clock with this window
  abbrev pub cause_of : Lent A (SeenTables F H K N V) → Option (ℕ × ℕ) → List (EventOf C R L) → EventOf C R L → Type 0
  cause_of lent window before event = CauseAt (launches window) lent.tables.value before event

-- whatever the window, these words are allowed
pub cause_free : {A V S C R F FTask GTask STask H HTask K KTask N L : Type 0} (allowed : ℕ → Type 0)
    (launches : Option (ℕ × ℕ) → Launching V S C R F FTask GTask STask H HTask K KTask N L)
    → ((window : Option (ℕ × ℕ)) (word : ℕ) → allowed word → (launches window).allowed word)
    → IsFree allowed (cause_of {A = A} launches)
cause_free allowed launches allows = record {
  trips = λ lent window before word moment says. allows window word says;
  admits = λ lent window before number moment by. tt;
  closes = λ lent window before moment. tt;
}
