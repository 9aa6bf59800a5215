-- Turns of the fairings that are called for a request.
use Rattle.std.specs.Prelude.{◌≡◌, ◌+◌, ◌<◌, ℕ, Option, Some, max}
use Rattle.rkt_fairing.specs.Fairings.{SeenFairings, fairing_at}
use Rattle.rkt_fairing.specs.declared.callback.Callback.TheVariants.{Request}
use Rattle.rkt_fairing.specs.declared.slot.Slot.{Slot}
use Rattle.rkt_request.specs.Lent.{Lent}
use Rattle.rkt_request.specs.Seen.{Seen}
use Rattle.rkt_router.specs.Callbacks.{RequestAt}
use Rattle.rkt_router.specs.Calling.{Calling, Polls}
use Rattle.rkt_router.specs.Calls.{GateFits, GateRule, Making, PolledAs}
use Rattle.rkt_router.specs.declared.step.Step.TheVariants as step
use Rattle.rkt_router.specs.declared.turn.Polled.{Polled}
use Rattle.rkt_router.specs.declared.turn.Polled.TheVariants as turn
use Rattle.rkt_source.specs.declared.source.Gate.{Gate}
use Rattle.rkt_turn.specs.HandsBack.{HandsBack}
use Rattle.rkt_exchange.specs.Asks.{AskInvariant, Leads, asked_at, asking}
use Rattle.rkt_exchange.specs.Chain.{CallTurned, Ends}
use Rattle.rkt_exchange.specs.declared.calls.Arrival.{Arrival}
use Rattle.rkt_exchange.specs.declared.calls.FairingTask.{FairingTask}
use Rattle.rkt_exchange.proofs.Chaining.{call_backs, call_made, call_turned}

module _ {V B C F Task : Type 0} (calling : Calling (Slot F) (Unit {0}) (RequestAt V B C) (Unit {0}) (Option Task)) (rule : GateRule) (fairings : SeenFairings F) (turns : ℕ) (first : RequestAt V B C) (lent : Arrival (Seen V) B (Lent C)) (call : FairingTask Task) (n : ℕ) (fairing : Slot F) where
  -- the call of this fairing is under way, and may be polled so often
  abbrev pub Preprocessing : RequestAt V B C → Type 0
  Preprocessing before = Making calling rule n fairing tt before call.task (asked_at lent) call.turn

  pub ask_made : n ≡ max turns 1 → Some fairing ≡ fairing_at Request fairings call.place → (stands : AskInvariant calling rule fairings turns first lent (Some call)) → Preprocessing stands.calls.before
  ask_made n_is here stands =
      call_made (asking calling rule fairings turns) (Leads calling rule fairings turns first) first.kept.shutdown Ends (asked_at lent) lent.live.calls call n fairing n_is here stands.calls

  -- a turn of it was made
  pub ask_turned : (after : RequestAt V B C) (task : Option Task) (gate : Gate) (made : Polled (Unit {0})) → n ≡ max turns 1 → GateFits rule gate → lent.live.ctx.gate ≡ gate → Some fairing ≡ fairing_at Request fairings call.place
      → (made ≡ turn.Pending → call.turn + 1 < n) → (made ≡ turn.Pending → Polls calling fairing tt call.task (asked_at lent) lent.live.ctx.gate step.Pending task after)
      → ((before : RequestAt V B C) → Preprocessing before → HandsBack before.kept.shutdown after.kept.shutdown)
      → ((before : RequestAt V B C) → GateFits rule lent.live.ctx.gate → Preprocessing before → PolledAs calling rule n fairing tt before made task after (call.turn + 1))
      → AskInvariant calling rule fairings turns first lent (Some call)
      → CallTurned (asking calling rule fairings turns) (Leads calling rule fairings turns first) first.kept.shutdown Ends gate after lent.live.calls (record { place = call.place; task = task; turn = call.turn + 1 }) made
  ask_turned after task gate made n_is fits under here left polls back gives stands =
      call_turned (asking calling rule fairings turns) (Leads calling rule fairings turns first) first.kept.shutdown Ends (asked_at lent) after lent.live.calls call task gate n fairing made n_is fits here left
      (λ pending. rw under at (polls pending)) back (λ before making. gives before (rw under fits) making) stands.calls

  -- the handle is one of the first one's wire
  pub ask_backs : (after : RequestAt V B C) → n ≡ max turns 1 → Some fairing ≡ fairing_at Request fairings call.place → ((before : RequestAt V B C) → Preprocessing before → HandsBack before.kept.shutdown after.kept.shutdown)
      → AskInvariant calling rule fairings turns first lent (Some call) → HandsBack first.kept.shutdown after.kept.shutdown
  ask_backs after n_is here back stands =
      call_backs (asking calling rule fairings turns) (Leads calling rule fairings turns first) first.kept.shutdown Ends (asked_at lent) after lent.live.calls call n fairing n_is here back stands.calls
