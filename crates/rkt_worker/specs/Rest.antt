-- A board on which the caller has nothing open.
use Rattle.std.specs.Prelude.{◌≡◌, ℕ, false, List}
use Rattle.std.specs.List.{AllByRecursion, list_any}
use Rattle.rkt_board.specs.Events.{is_down, is_close, admits, ends}
use Rattle.rkt_board.specs.Records.{events}
use Rattle.rkt_board.specs.declared.log_record.RecordOf.{RecordOf}
use Rattle.rkt_worker.specs.Headline.{IsCallers}

-- no number is open, neither a Down nor a Close stands there, and the caller has entered all
pub record IsAtRest {C R L : Type 0} (records : List (RecordOf C R L)) : Type 0 where
  pub none_open : (k : ℕ) → list_any (admits k) (events records) ≡ list_any (ends k) (events records)
  pub up : list_any is_down (events records) ≡ false
  pub unclosed : list_any is_close (events records) ≡ false
  pub callers : AllByRecursion IsCallers (events records)
