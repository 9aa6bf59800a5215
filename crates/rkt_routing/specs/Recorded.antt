-- What a run records of a call.
use Rattle.std.specs.Prelude.{Result, Ok, Err, length}
use Rattle.rkt_http.specs.declared.outcome.Outcome.TheVariants.{Success, Error, Forward}
use Rattle.rkt_http.specs.declared.status.Status.{Status}
use Rattle.rkt_message.specs.Response.{ResponseOf}
use Rattle.rkt_request.specs.Lent.{Kept}
use Rattle.rkt_router.specs.Callbacks.{Reply}
use Rattle.rkt_router.specs.declared.turn.Final.{Final}
use Rattle.rkt_router.specs.declared.turn.Final.TheVariants.{Done, FailedTurn, Starved}
use Rattle.rkt_routing.specs.declared.run.Answer.{Answer}
use Rattle.rkt_routing.specs.declared.run.Answer.TheVariants as answer
use Rattle.rkt_routing.specs.declared.run.Call.{Call}
use Rattle.rkt_routing.specs.declared.run.Which.{Which}

-- the callback, its answer, and how far log, cache and wire are afterwards
abbrev pub recorded : {C : Type 0} → Which → Answer → Kept C → Call
recorded which answer after = record {
  which = which;
  answer = answer;
  changes = length after.jar.log;
  cached = length after.cache;
  word = after.shutdown.seen;
}

-- what is recorded of a handler's reply; one that was starved is not recorded
abbrev pub handler_answer : {S B : Type 0} → Final (Reply S B) → Answer
handler_answer (Done (Success response)) = answer.Success
handler_answer (Done (Error status)) = answer.Error status
handler_answer (Done (Forward back)) = answer.Forward back.1
handler_answer FailedTurn = answer.FailedTurn
handler_answer Starved = answer.FailedTurn

-- what is recorded of a catcher's reply
abbrev pub catcher_answer : {S : Type 0} → Final (Result (ResponseOf S) Status) → Answer
catcher_answer (Done (Ok response)) = answer.Caught
catcher_answer (Done (Err status)) = answer.Refused status
catcher_answer FailedTurn = answer.FailedTurn
catcher_answer Starved = answer.FailedTurn
