-- Turns of the fairings that are called for a response.
use Rattle.std.specs.Prelude.{◌≡◌, ◌+◌, ◌<◌, ℕ, Option, Some, max}
use Rattle.std.proofs.Common.{subst, sym}
use Rattle.rkt_fairing.specs.Callbacks.{ResponseAt}
use Rattle.rkt_fairing.specs.Fairings.{SeenFairings, fairing_at}
use Rattle.rkt_fairing.specs.declared.callback.Callback.TheVariants.{Response}
use Rattle.rkt_fairing.specs.declared.slot.Slot.{Slot}
use Rattle.rkt_request.specs.Lent.{Lent}
use Rattle.rkt_request.specs.Seen.{Seen}
use Rattle.rkt_router.specs.Calling.{Calling, Polls}
use Rattle.rkt_router.specs.Calls.{GateFits, GateRule, Making, PolledAs}
use Rattle.rkt_router.specs.declared.step.Step.TheVariants as step
use Rattle.rkt_router.specs.declared.turn.Polled.{Polled}
use Rattle.rkt_router.specs.declared.turn.Polled.TheVariants as turn
use Rattle.rkt_source.specs.declared.source.Gate.{Gate}
use Rattle.rkt_turn.specs.HandsBack.{HandsBack}
use Rattle.rkt_exchange.specs.Answers.{AnswerInvariant, Leads, Outgoing, answered_at, answering}
use Rattle.rkt_exchange.specs.Chain.{CallTurned, CallsNow, Ends}
use Rattle.rkt_exchange.specs.declared.calls.Departure.{Departure}
use Rattle.rkt_exchange.specs.declared.calls.FairingTask.{FairingTask}
use Rattle.rkt_exchange.proofs.Chaining.{call_backs, call_made, call_turned}

module _ {V C S F Task : Type 0} (calling : Calling (Slot F) (Seen V) (ResponseAt S C) (Unit {0}) (Option Task)) (rule : GateRule) (fairings : SeenFairings F) (turns : ℕ) (first : Outgoing V C S) (lent : Departure (Seen V) (Lent C) S) (call : FairingTask Task) (n : ℕ) (fairing : Slot F) where
  -- the call of this fairing is under way, and may be polled so often
  abbrev pub Finalizing : ResponseAt S C → Type 0
  Finalizing before = Making calling rule n fairing lent.live.request before call.task (answered_at lent) call.turn

  -- the call as it stands, whichever way its request is named
  abbrev Stands : Seen V → Type 0
  Stands request = CallsNow (answering calling rule fairings turns request) (Leads calling rule fairings turns first) first.at.kept.shutdown Ends (answered_at lent) lent.live.calls call

  stands_so : AnswerInvariant calling rule fairings turns first lent (Some call) → Stands lent.live.request
  stands_so stands = subst Stands (sym stands.request) stands.calls

  pub answer_made : n ≡ max turns 1 → Some fairing ≡ fairing_at Response fairings call.place → (stands : AnswerInvariant calling rule fairings turns first lent (Some call)) → (before : ResponseAt S C) × Finalizing before
  answer_made n_is here stands =
      let now = stands_so stands in
      (now.before, call_made (answering calling rule fairings turns lent.live.request) (Leads calling rule fairings turns first) first.at.kept.shutdown Ends (answered_at lent) lent.live.calls call n fairing n_is here now)

  -- a turn of it was made
  pub answer_turned : (after : ResponseAt S C) (task : Option Task) (gate : Gate) (made : Polled (Unit {0})) → n ≡ max turns 1 → GateFits rule gate → lent.live.ctx.gate ≡ gate → Some fairing ≡ fairing_at Response fairings call.place
      → (made ≡ turn.Pending → call.turn + 1 < n) → (made ≡ turn.Pending → Polls calling fairing lent.live.request call.task (answered_at lent) lent.live.ctx.gate step.Pending task after)
      → ((before : ResponseAt S C) → Finalizing before → HandsBack before.kept.shutdown after.kept.shutdown)
      → ((before : ResponseAt S C) → GateFits rule lent.live.ctx.gate → Finalizing before → PolledAs calling rule n fairing lent.live.request before made task after (call.turn + 1))
      → AnswerInvariant calling rule fairings turns first lent (Some call)
      → CallTurned (answering calling rule fairings turns first.request) (Leads calling rule fairings turns first) first.at.kept.shutdown Ends gate after lent.live.calls (record { place = call.place; task = task; turn = call.turn + 1 }) made
  answer_turned after task gate made n_is fits under here left polls back gives stands =
      subst (λ r. CallTurned (answering calling rule fairings turns r) (Leads calling rule fairings turns first) first.at.kept.shutdown Ends gate after lent.live.calls (record { place = call.place; task = task; turn = call.turn + 1 }) made) stands.request
      (call_turned (answering calling rule fairings turns lent.live.request) (Leads calling rule fairings turns first) first.at.kept.shutdown Ends (answered_at lent) after lent.live.calls call task gate n fairing made n_is fits here left
      (λ pending. rw under at (polls pending)) back (λ before making. gives before (rw under fits) making) (stands_so stands))

  -- the handle is one of the first one's wire
  pub answer_backs : (after : ResponseAt S C) → n ≡ max turns 1 → Some fairing ≡ fairing_at Response fairings call.place → ((before : ResponseAt S C) → Finalizing before → HandsBack before.kept.shutdown after.kept.shutdown)
      → AnswerInvariant calling rule fairings turns first lent (Some call) → HandsBack first.at.kept.shutdown after.kept.shutdown
  answer_backs after n_is here back stands =
      call_backs (answering calling rule fairings turns lent.live.request) (Leads calling rule fairings turns first) first.at.kept.shutdown Ends (answered_at lent) after lent.live.calls call n fairing n_is here back (stands_so stands)
