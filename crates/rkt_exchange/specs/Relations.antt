-- What the callbacks of an application mean, what a peek at a body leaves of it, and the Gates under which they are polled.
use Rattle.std.specs.Prelude.{ℕ, List, Option, Result}
use Rattle.rkt_source.specs.Cancel.{Cancellable}
use Rattle.rkt_data.specs.Body.{Body}
use Rattle.rkt_fairing.specs.Callbacks.{ResponseAt}
use Rattle.rkt_fairing.specs.InSlot.{slot_request, slot_response}
use Rattle.rkt_fairing.specs.declared.slot.Slot.{Slot}
use Rattle.rkt_http.specs.declared.status.Status.{Status}
use Rattle.rkt_exchange.specs.Peeks.{peeks_of}
use Rattle.rkt_message.specs.Response.{ResponseOf}
use Rattle.rkt_request.specs.Lent.{Kept}
use Rattle.rkt_request.specs.Seen.{Seen}
use Rattle.rkt_router.specs.Callbacks.{Handed, Refused, Reply, RequestAt}
use Rattle.rkt_router.specs.Calling.{Calling}
use Rattle.rkt_router.specs.Calls.{GateRule}
use Rattle.rkt_routing.specs.Relations.{Relations as Callbacks}
use Rattle.rkt_source.specs.Source.{Meaning}

-- V is the type of managed values, B that of bodies, C that of cached values, S that of streams, F that of fairings, with the
-- types of their tasks for requests and for responses; H and K are those of handlers and of catchers' handlers, with the types
-- of their tasks
pub record Relations (V B C S F FTask GTask H HTask K KTask : Type 0) : Type 1 where
  pub requests : Calling (Slot F) (Unit {0}) (RequestAt V B C) (Unit {0}) (Option FTask)
  pub responses : Calling (Slot F) (Seen V) (ResponseAt S C) (Unit {0}) (Option GTask)
  pub handlers : Calling H (Handed V B) (Kept C) (Reply S B) HTask
  pub catchers : Calling K (Refused V) (Kept C) (Result (ResponseOf S) Status) KTask
  -- what a peek may leave of a body, and what it shows
  pub peeks : B → List ℕ → B → Type 0
  -- which Gates a callback may be polled under
  pub gates : GateRule

-- bodies are peeked at under the Gates of the same rule
abbrev pub relations : {V B C S F FTask GTask H HTask K KTask : Type 0}
    → (GateRule → B → List ℕ → B → Type 0)
    → Calling (Slot F) (Unit {0}) (RequestAt V B C) (Unit {0}) (Option FTask)
    → Calling (Slot F) (Seen V) (ResponseAt S C) (Unit {0}) (Option GTask)
    → Calling H (Handed V B) (Kept C) (Reply S B) HTask
    → Calling K (Refused V) (Kept C) (Result (ResponseOf S) Status) KTask
    → GateRule
    → Relations V B C S F FTask GTask H HTask K KTask
relations peeks requests responses handlers catchers gates =
    record {
      requests = requests;
      responses = responses;
      handlers = handlers;
      catchers = catchers;
      peeks = peeks gates;
      gates = gates;
    }

-- what the sources of bodies and the callbacks mean, these in their slots, under the Gates of a rule
abbrev pub relations_of : {V S C R F FTask GTask H HTask K KTask : Type 0} → (S → Meaning)
    → Calling F (Unit {0}) (RequestAt V (Body (Cancellable S)) C) (Unit {0}) FTask
    → Calling F (Seen V) (ResponseAt R C) (Unit {0}) GTask
    → Calling H (Handed V (Body (Cancellable S))) (Kept C) (Reply R (Body (Cancellable S))) HTask
    → Calling K (Refused V) (Kept C) (Result (ResponseOf R) Status) KTask
    → GateRule → Relations V (Body (Cancellable S)) C R F FTask GTask H HTask K KTask
relations_of sources requests responses handlers catchers rule =
    relations (peeks_of sources) (slot_request requests) (slot_response responses) handlers catchers rule

-- those by which a request is routed
abbrev pub callbacks : {V B C S F FTask GTask H HTask K KTask : Type 0}
    → Relations V B C S F FTask GTask H HTask K KTask
    → Callbacks V B C S H HTask K KTask
callbacks rel = record { handlers = rel.handlers; catchers = rel.catchers; gates = rel.gates }
