-- When an exchange may be Pending, and when one that still is comes too late.
use Rattle.std.specs.Prelude.{◌≡◌, ◌<◌, ◌+◌, ◌⊎◌, ℕ, true, Option, Some, slice_get}
use Rattle.std.specs.Option.{ForSome}
use Rattle.rkt_source.specs.Cancel.{Cancellable}
use Rattle.rkt_data.specs.Body.{Body}
use Rattle.rkt_fairing.specs.Fairings.{fairing_at}
use Rattle.rkt_fairing.specs.declared.callback.Callback.TheVariants.{Request, Response}
use Rattle.rkt_fairing.specs.declared.slot.Slot.{Slot}
use Rattle.rkt_exchange.specs.Relations.{Relations}
use Rattle.rkt_exchange.specs.Tables.{SeenTables}
use Rattle.rkt_route.specs.declared.catcher.Catcher.{Catcher}
use Rattle.rkt_route.specs.declared.catcher.Catching.TheVariants.{App}
use Rattle.rkt_route.specs.declared.route.Route.{Route}
use Rattle.rkt_router.specs.Calling.{Calling}
use Rattle.rkt_source.specs.Source.{Meaning}
use Rattle.rkt_worker.specs.Serving.{Launching, callbacks_of}

-- at this moment the grace and the mercy of a Trip are over
abbrev pub IsLate : ℕ → ℕ → Option (ℕ × ℕ) → ℕ → Type 0
IsLate grace mercy trip moment = (t : ℕ × ℕ) × (trip ≡ Some t) × (t.1 + grace + mercy < moment)

-- a callback may be Pending on something that it is handed
abbrev pub MayPend : {Self Handed Held Answer Task : Type 0} → Calling Self Handed Held Answer Task → Self → Type 0
MayPend {Handed = Handed} {Held = Held} C callback =
    (handed : Handed) × (before : Held) × (0 < C.pendings callback handed before)

module _ {V S C R F FTask GTask H HTask K KTask N : Type 0}
    (rel : Relations V (Body (Cancellable S)) C R F FTask GTask H HTask K KTask) (sources : S → Meaning)
    (tables : SeenTables F H K N V) where
  -- a fairing that is called for a request may be
  abbrev pub RequestMayBePending : Type 0
  RequestMayBePending =
      (place : ℕ) × (fairing : Slot F)
      × (fairing_at Request tables.fairings place ≡ Some fairing)
      × MayPend rel.requests fairing

  -- the handler of a route
  abbrev pub HandlerMayBePending : Type 0
  HandlerMayBePending =
      (position : ℕ) × (route : Route H N)
      × (slice_get tables.router.routes position ≡ Some route)
      × MayPend rel.handlers route.handler

  -- that of a catcher
  abbrev pub CatcherMayBePending : Type 0
  CatcherMayBePending =
      (position : ℕ) × (catcher : Catcher K) × (handler : K)
      × (slice_get tables.router.catchers position ≡ Some catcher)
      × (catcher.handler ≡ App handler)
      × MayPend rel.catchers handler

  -- a fairing that is called for a response
  abbrev pub ResponseMayBePending : Type 0
  ResponseMayBePending =
      (place : ℕ) × (fairing : Slot F)
      × (fairing_at Response tables.fairings place ≡ Some fairing)
      × MayPend rel.responses fairing

  -- the source of a body
  abbrev pub SourceMayBePending : Type 0
  SourceMayBePending = (source : S) × (0 < (sources source).pendings)

  -- an exchange may be Pending, since one of these may be
  abbrev pub MayBePending : Type 0
  MayBePending =
      RequestMayBePending ⊎ (HandlerMayBePending ⊎ (CatcherMayBePending ⊎ (ResponseMayBePending ⊎ SourceMayBePending)))

-- what must be so where an exchange is abandoned: a word is allowed, more time goes by than the grace and the mercy of the
-- tables, and an exchange may be Pending
pub record MayAbandon {V S C R F FTask GTask STask H HTask K KTask N L : Type 0}
    (launch : Launching V S C R F FTask GTask STask H HTask K KTask N L) (tables : SeenTables F H K N V) : Type 0 where
  pub word : ℕ
  pub allows : launch.allowed word
  pub window : ForSome launch.serving.window (λ w. w.0 + tables.config.grace + tables.config.mercy < w.1)
  pub waits : MayBePending (callbacks_of launch.serving tables true) launch.serving.sources tables
