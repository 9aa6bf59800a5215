-- What may stand behind the events of a launch.
use Rattle.std.specs.Prelude.{ℕ, List, Option}
use Rattle.rkt_board.specs.declared.history.EventOf.{EventOf}
use Rattle.rkt_board.specs.declared.history.EventOf.TheVariants.{Trip, Admit, Close}

-- behind a Trip stands nothing but that its word is allowed, and nothing behind an Admit and a Close
pub record IsFree {P C S K : Type 0} (allowed : ℕ → Type 0)
    (cause : P → Option (ℕ × ℕ) → List (EventOf C S K) → EventOf C S K → Type 0) : Type 0 where
  pub trips : (served : P) (window : Option (ℕ × ℕ)) (before : List (EventOf C S K)) (word moment : ℕ)
      → allowed word
      → cause served window before (Trip word moment)
  pub admits : (served : P) (window : Option (ℕ × ℕ)) (before : List (EventOf C S K)) (number moment by : ℕ)
      → cause served window before (Admit number moment by)
  pub closes : (served : P) (window : Option (ℕ × ℕ)) (before : List (EventOf C S K)) (moment : ℕ)
      → cause served window before (Close moment)
