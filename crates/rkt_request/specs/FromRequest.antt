-- What guards answer.
use Rattle.std.specs.Prelude.{◌≡◌, Option, Some, None, Result, Ok, Err}
use Rattle.rkt_http.specs.declared.outcome.Outcome.{Outcome}
use Rattle.rkt_http.specs.declared.outcome.Outcome.TheVariants.{Success, Error, Forward}
use Rattle.rkt_http.specs.declared.status.Status.{Status}

-- just this is answered, and nothing that the guard was lent has changed
pub record Answers {O L : Type 0} (outcome answer : O) (before after : L) : Type 0 where
  pub answered : outcome ≡ answer
  pub kept : after ≡ before

-- 500
abbrev pub server_error : Status
server_error = record { code = 500 }

-- a value that is there, or else a Forward with 500
abbrev pub or_forward : {S E : Type 0} → Option S → Outcome S E Status
or_forward (Some value) = Success value
or_forward None = Forward server_error

-- a value that is there, or else an Error with 500
abbrev pub or_error : {S F : Type 0} → Option S → Outcome S (Status × Unit {0}) F
or_error (Some value) = Success value
or_error None = Error (server_error, tt)

-- Some of a Success, and None of anything else
abbrev pub as_option : {S E F G H : Type 0} → Outcome S E F → Outcome (Option S) G H
as_option (Success value) = Success (Some value)
as_option (Error error) = Success None
as_option (Forward status) = Success None

-- Ok of a Success, Err of an Error without its status, and a Forward as it is
abbrev pub as_result : {S E F G : Type 0} → Outcome S (Status × E) F → Outcome (Result S E) G F
as_result (Success value) = Success (Ok value)
as_result (Error error) = Success (Err error.1)
as_result (Forward status) = Forward status
