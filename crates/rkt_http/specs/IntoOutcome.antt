-- What options and results are read as.
use Rattle.std.specs.Prelude.{Option, Some, None, Result, Ok, Err}
use Rattle.rkt_http.specs.declared.outcome.Outcome.{Outcome}
use Rattle.rkt_http.specs.declared.outcome.Outcome.TheVariants.{Success, Error, Forward}

abbrev pub option_or_error : {S E F : Type 0} → Option S → E → Outcome S E F
option_or_error (Some s) e = Success s
option_or_error None e = Error e

abbrev pub option_or_forward : {S E F : Type 0} → Option S → F → Outcome S E F
option_or_forward (Some s) f = Success s
option_or_forward None f = Forward f

-- the cause of an Err stands beside the status
abbrev pub result_or_error : {S E F W : Type 0} → Result S E → W → Outcome S (W × E) F
result_or_error (Ok s) w = Success s
result_or_error (Err e) w = Error (w, e)

abbrev pub result_or_forward : {S E E' F : Type 0} → Result S E → F → Outcome S E' F
result_or_forward (Ok s) f = Success s
result_or_forward (Err e) f = Forward f

-- the status of an Err is the Error
abbrev pub responded_or_error : {S E F : Type 0} → Result S E → Outcome S E F
responded_or_error (Ok s) = Success s
responded_or_error (Err e) = Error e
