-- What the callbacks of an application mean, and the Gates under which they are polled.
use Rattle.std.specs.Prelude.{Result}
use Rattle.rkt_http.specs.declared.status.Status.{Status}
use Rattle.rkt_message.specs.Response.{ResponseOf}
use Rattle.rkt_request.specs.Lent.{Kept}
use Rattle.rkt_router.specs.Callbacks.{Handed, Refused, Reply}
use Rattle.rkt_router.specs.Calling.{Calling}
use Rattle.rkt_router.specs.Calls.{GateRule}

-- V is the type of managed values, B that of bodies, C that of cached values, S that of streams; H and K are those of
-- handlers and of catchers' handlers, with the types of their tasks
pub record Relations (V B C S H HTask K KTask : Type 0) : Type 1 where
  pub handlers : Calling H (Handed V B) (Kept C) (Reply S B) HTask
  pub catchers : Calling K (Refused V) (Kept C) (Result (ResponseOf S) Status) KTask
  -- which Gates a callback may be polled under
  pub gates : GateRule

abbrev pub relations : {V B C S H HTask K KTask : Type 0}
    → Calling H (Handed V B) (Kept C) (Reply S B) HTask
    → Calling K (Refused V) (Kept C) (Result (ResponseOf S) Status) KTask
    → GateRule
    → Relations V B C S H HTask K KTask
relations handlers catchers gates = record { handlers = handlers; catchers = catchers; gates = gates }
