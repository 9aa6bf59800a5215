-- No exchange of the sample is ever Pending, so none is abandoned: a launch of it over a listener that never fails fails for want of
-- memory alone.
use Rattle.std.proofs.Common.{◌<◌, inl, inr, ℕ, true, Option, arith}
use Rattle.rkt_fairing.specs.Callbacks.{quiet}
use Rattle.rkt_fairing.specs.InSlot.{slot_request, slot_response}
use Rattle.rkt_fairing.specs.declared.slot.Slot.{Slot}
use Rattle.rkt_fairing.specs.declared.slot.Slot.TheVariants.{Shield, App}
use Rattle.rkt_life.specs.Rocket.{SeenRocket}
use Rattle.rkt_life.specs.declared.no_fairing.NoFairing.{NoFairing}
use Rattle.rkt_fairing.specs.Calls.{CallingAtShutdown}
use Rattle.rkt_sample.specs.declared.catcher.SampleCatcher.{SampleCatcher}
use Rattle.rkt_sample.specs.declared.route.SampleRoute.{SampleRoute}
use Rattle.rkt_serve.specs.Kept.{IfShutdown, IsLit, IsWant}
use Rattle.rkt_serve.specs.declared.error.ErrorKindOf.{ErrorKindOf}
use Rattle.rkt_serve.specs.declared.error.ErrorKindOf.TheVariants.{Ignition, Shutdown, NoMemory}
use Rattle.rkt_serve.specs.declared.error.LaunchedOf.{LaunchedOf}
use Rattle.rkt_source.specs.Memory.{source_meaning}
use Rattle.rkt_worker.specs.Serving.{callbacks_of, launching}
use Rattle.rkt_worker.specs.Waiting.{MayAbandon, MayBePending, MayPend}
use Rattle.rkt_demo.specs.Sample.{SampleTables}
use Rattle.rkt_demo.specs.Shown.{served_in}

none_below : 0 < 0 → ⊥
none_below less = absurd (omega (arith, less))

module _ (word : ℕ) (window : Option (ℕ × ℕ)) (tables : SampleTables) where
  request_never : (slot : Slot NoFairing) → MayPend (callbacks_of (served_in word window) tables true).requests slot → ⊥
  request_never (Shield headers) may = none_below may.2
  request_never (App fairing) may = none_below may.2

  response_never : (slot : Slot NoFairing) → MayPend (callbacks_of (served_in word window) tables true).responses slot → ⊥
  response_never (Shield headers) may = none_below may.2
  response_never (App fairing) may = none_below may.2

  none_pending : MayBePending (callbacks_of (served_in word window) tables true) source_meaning tables → ⊥
  none_pending (inl request) = request_never request.1 request.3
  none_pending (inr (inl handler)) = none_below handler.3.2
  none_pending (inr (inr (inl catcher))) = none_below catcher.5.2
  none_pending (inr (inr (inr (inl response)))) = response_never response.1 response.3
  none_pending (inr (inr (inr (inr source)))) = none_below source.1

  never_abandons : {Task : Type 0} (allowed : ℕ → Type 0) (shuts : CallingAtShutdown SampleRoute SampleCatcher (Unit {0}) ℕ NoFairing Task)
      → MayAbandon (launching allowed shuts (served_in word window)) tables → ⊥
  never_abandons allowed shuts may = none_pending may.waits

pub is_want : {L C H Task : Type 0} (error : ErrorKindOf (LaunchedOf (SeenRocket NoFairing SampleRoute SampleCatcher (Unit {0}) ℕ) L C H) L C) (allowed : ℕ → Type 0)
    (shuts : CallingAtShutdown SampleRoute SampleCatcher (Unit {0}) ℕ NoFairing Task) (word : ℕ) (window : Option (ℕ × ℕ)) → IsLit error
    → IfShutdown error (λ l. MayAbandon (launching allowed shuts (served_in word window)) l.rocket.tables) → IsWant error
is_want (NoMemory kept) allowed shuts word window lit may = tt
is_want (Shutdown launched) allowed shuts word window lit may = absurd (never_abandons word window launched.rocket.tables allowed shuts may)
is_want (Ignition fault listener clock) allowed shuts word window lit may = absurd lit
