-- What an application, and what it is served over, mean.
use Rattle.std.specs.Prelude.{ℕ, Bool, Option, None, Some, Result}
use Rattle.rkt_source.specs.Cancel.{Cancellable}
use Rattle.rkt_data.specs.Body.{Body}
use Rattle.rkt_fairing.specs.Callbacks.{ResponseAt}
use Rattle.rkt_fairing.specs.InSlot.{slot_request, slot_response}
use Rattle.rkt_fairing.specs.declared.slot.Slot.{Slot}
use Rattle.rkt_http.specs.declared.status.Status.{Status}
use Rattle.rkt_exchange.specs.Peeks.{peeks_of}
use Rattle.rkt_exchange.specs.Relations.{Relations, relations}
use Rattle.rkt_exchange.specs.Tables.{SeenTables}
use Rattle.rkt_message.specs.Response.{ResponseOf}
use Rattle.rkt_fairing.specs.Calls.{CallingAtShutdown}
use Rattle.rkt_request.specs.Lent.{Kept}
use Rattle.rkt_request.specs.Seen.{Seen}
use Rattle.rkt_router.specs.Callbacks.{Handed, Refused, Reply, RequestAt}
use Rattle.rkt_router.specs.Calling.{Calling}
use Rattle.rkt_router.specs.Calls.{GateRule}
use Rattle.rkt_source.specs.Source.{Meaning}
use Rattle.rkt_link.specs.Link.{LinkMeaning}

-- V is the type of managed values, S that of the sources of bodies, C that of cached values, R that of streams; F is that of
-- fairings, with the types of their tasks for requests and for responses; H and K are those of handlers and of catchers'
-- handlers, with the types of their tasks, and L is that of links
pub record Serving (V S C R F FTask GTask H HTask K KTask L : Type 0) : Type 1 where
  pub requests : Calling (Slot F) (Unit {0}) (RequestAt V (Body (Cancellable S)) C) (Unit {0}) (Option FTask)
  pub responses : Calling (Slot F) (Seen V) (ResponseAt R C) (Unit {0}) (Option GTask)
  pub handlers : Calling H (Handed V (Body (Cancellable S))) (Kept C) (Reply R (Body (Cancellable S))) HTask
  pub catchers : Calling K (Refused V) (Kept C) (Result (ResponseOf R) Status) KTask
  pub sources : S → Meaning
  pub streams : R → Meaning
  pub links : L → LinkMeaning
  -- the first and the last moment that the clock may tell, where it tells them
  pub window : Option (ℕ × ℕ)

-- what is attached is called as its slot says: the shield, or a fairing that means this
abbrev pub serving : {V S C R F FTask GTask H HTask K KTask L : Type 0}
    → Calling F (Unit {0}) (RequestAt V (Body (Cancellable S)) C) (Unit {0}) FTask
    → Calling F (Seen V) (ResponseAt R C) (Unit {0}) GTask
    → Calling H (Handed V (Body (Cancellable S))) (Kept C) (Reply R (Body (Cancellable S))) HTask
    → Calling K (Refused V) (Kept C) (Result (ResponseOf R) Status) KTask
    → (S → Meaning) → (R → Meaning) → (L → LinkMeaning) → Option (ℕ × ℕ)
    → Serving V S C R F FTask GTask H HTask K KTask L
serving requests responses handlers catchers sources streams links window =
    record {
      requests = slot_request requests;
      responses = slot_response responses;
      handlers = handlers;
      catchers = catchers;
      sources = sources;
      streams = streams;
      links = links;
      window = window;
    }

-- STask is the type of the tasks of fairings at a shutdown, N that of what sentries ask

-- what stands behind a history: the words that may be told, how fairings are called at a shutdown, and what its entries go by
pub record Launching (V S C R F FTask GTask STask H HTask K KTask N L : Type 0) : Type 1 where
  pub allowed : ℕ → Type 0
  pub shuts : CallingAtShutdown H K N V F STask
  pub serving : Serving V S C R F FTask GTask H HTask K KTask L

abbrev pub launching : {V S C R F FTask GTask STask H HTask K KTask N L : Type 0}
    → (ℕ → Type 0) → CallingAtShutdown H K N V F STask
    → Serving V S C R F FTask GTask H HTask K KTask L → Launching V S C R F FTask GTask STask H HTask K KTask N L
launching allowed shuts serving = record { allowed = allowed; shuts = shuts; serving = serving }

-- Gates of a clock's moments, with these delays, which may show a trip or not
abbrev pub gates_with : Option (ℕ × ℕ) → ℕ → ℕ → Bool → GateRule
gates_with window grace mercy may_trip =
    record { window = window; delays = Some (grace, mercy); may_trip = may_trip; shown = None }

-- the Gates that callbacks are polled under: the delays are the configuration's
abbrev pub gates_of : {F H K N V : Type 0} → Option (ℕ × ℕ) → SeenTables F H K N V → Bool → GateRule
gates_of window tables may_trip = gates_with window tables.config.grace tables.config.mercy may_trip

-- what the callbacks mean under those
abbrev pub callbacks_of : {V S C R F FTask GTask H HTask K KTask L N : Type 0}
    → Serving V S C R F FTask GTask H HTask K KTask L
    → SeenTables F H K N V
    → Bool
    → Relations V (Body (Cancellable S)) C R F FTask GTask H HTask K KTask
callbacks_of of_ tables may_trip =
    relations (peeks_of of_.sources) of_.requests of_.responses of_.handlers of_.catchers (gates_of of_.window tables may_trip)
