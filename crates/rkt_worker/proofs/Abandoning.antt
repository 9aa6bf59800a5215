-- What an exchange waits for that is Pending.
use Rattle.std.proofs.Common.{◌≡◌, ◌+◌, inl, inr, ℕ, [], Option, None, Some, ap, ◌∙◌, arith}
use Rattle.std.specs.Prelude.{length}
use Rattle.std.proofs.lemmas.List.{length_push}
use Rattle.rkt_base.specs.declared.poll.Poll.{Poll}
use Rattle.rkt_base.specs.declared.poll.Poll.TheVariants.{Pending}
use Rattle.rkt_source.specs.Cancel.{Cancellable}
use Rattle.rkt_data.specs.Body.{Body}
use Rattle.rkt_data.specs.CountedSource.{Tapped, TapWaits}
use Rattle.rkt_router.specs.Callbacks.{RequestAt}
use Rattle.rkt_exchange.specs.Answers.{Answers, Outgoing, Pends as AnswerPends}
use Rattle.rkt_exchange.specs.Asks.{Asks, Pends as AskPends}
use Rattle.rkt_exchange.specs.Peeks.{cuts, waits_of}
use Rattle.rkt_exchange.specs.Relations.{Relations, callbacks}
use Rattle.rkt_exchange.specs.Invariant.{ExchangeGives, SeenPhase, WaitsIn}
use Rattle.rkt_exchange.specs.Tables.{SeenTables, table_of}
use Rattle.rkt_exchange.specs.declared.calls.FairingTask.{FairingTask}
use Rattle.rkt_exchange.specs.declared.phase.Phase.TheVariants as phase
use Rattle.rkt_request.specs.Lent.{Lent}
use Rattle.rkt_request.specs.Seen.{Seen}
use Rattle.rkt_router.specs.Calling.{Calling}
use Rattle.rkt_router.specs.Calls.{GateRule, Making}
use Rattle.rkt_routing.specs.Beginning.{Beginning}
use Rattle.rkt_routing.specs.Invariant.{EndsWith, WaitsAt}
use Rattle.rkt_routing.specs.declared.stage.Live.{Live}
use Rattle.rkt_routing.specs.declared.stage.Stage.{Stage}
use Rattle.rkt_routing.specs.declared.stage.Stage.TheVariants as stage
use Rattle.rkt_source.specs.Source.{Meaning, Polled}
use Rattle.rkt_source.specs.declared.source.Gate.{Gate}
use Rattle.rkt_worker.specs.Waiting.{MayPend, MayBePending}

-- a call that a poll under a Gate has left Pending may be
pended : {Self Handed Held Answer Task : Type 0} (C : Calling Self Handed Held Answer Task) (rule : GateRule) (turns : ℕ) (callback : Self) (handed : Handed) (before : Held) (task : Task) (now : Held) (n : ℕ) (gate : Gate)
    (making : Making C rule turns callback handed before task now n) → EndsWith making.gates gate → MayPend C callback
pended C rule turns callback handed before task now n gate making ends =
    let one : length making.gates ≡ length ends.0 + 1 = ap length ends.1 ∙ length_push ends.0 gate in
    let polled = making.polls in
    let bounded = making.goes.bounded in
    (handed, before, omega (arith, one, polled, bounded))

module _ {V S C R F FTask GTask H HTask K KTask N : Type 0} (rel : Relations V (Body (Cancellable S)) C R F FTask GTask H HTask K KTask) (sources : S → Meaning) (tables : SeenTables F H K N V) where
  asks_wait : (first : RequestAt V (Body (Cancellable S)) C) (gate : Gate) (asks : Asks V (Body (Cancellable S)) C F FTask) (next : Option (FairingTask FTask)) → AskPends rel.requests rel.gates tables.fairings tables.config.turns first gate asks.lent next
      → MayBePending rel sources tables
  asks_wait first gate asks None waits = absurd waits
  asks_wait first gate asks (Some call) waits = inl (call.place, waits.0.fairing, waits.0.found, pended rel.requests rel.gates _ waits.0.fairing _ waits.0.before call.task _ call.turn gate waits.0.making waits.1)

  answers_wait : (out : Outgoing V C R) (gate : Gate) (answers : Answers V C R F GTask) (next : Option (FairingTask GTask)) → AnswerPends rel.responses rel.gates tables.fairings tables.config.turns out gate answers.lent next
      → MayBePending rel sources tables
  answers_wait out gate answers None waits = absurd waits
  answers_wait out gate answers (Some call) waits = inr (inr (inr (inl (call.place, waits.0.fairing, waits.0.found, pended rel.responses rel.gates _ waits.0.fairing _ waits.0.before call.task _ call.turn gate waits.0.making waits.1))))

  stage_waits : (first : Beginning V (Body (Cancellable S)) C) (live : Live (Seen V) (Lent C)) (now : Stage (Body (Cancellable S)) HTask KTask) → WaitsAt (callbacks rel) first (table_of tables) live now → MayBePending rel sources tables
  stage_waits first live (stage.Next behind body status again) waits = absurd waits
  stage_waits first live (stage.Trying call) waits = inr (inl (call.position, waits.0.route, waits.0.found, pended rel.handlers rel.gates _ waits.0.route.handler _ _ call.task _ call.turn live.ctx.gate waits.0.making waits.1))
  stage_waits first live (stage.Catch status) waits = absurd waits
  stage_waits first live (stage.Catching call) waits =
      inr (inr (inl (call.position, waits.0.catcher, waits.0.handler, waits.0.found, waits.0.handles, pended rel.catchers rel.gates _ waits.0.handler _ waits.0.before call.task _ call.turn live.ctx.gate waits.0.making waits.1)))

  tap_waits : (old new : Option (Tapped (Cancellable S))) → TapWaits (cuts sources) old new → MayBePending rel sources tables
  tap_waits None new waits = absurd waits
  tap_waits (Some t) None waits = absurd waits
  tap_waits (Some t) (Some u) waits = inr (inr (inr (inr (t.now.io, omega (arith, waits.0, waits.1)))))

  module _ (shuts : S → Poll (Unit {0}) → S → Type 0) (polled : Polled S) (first : Beginning V (Body (Cancellable S)) C) where
    phase_waits : (gate : Gate) (now : SeenPhase V (Body (Cancellable S)) C R F FTask GTask H HTask K KTask N) → WaitsIn rel first tables (waits_of sources shuts polled) gate now → MayBePending rel sources tables
    phase_waits gate (phase.Peeking peeking) waits = tap_waits waits.0.tap peeking.body.tap waits.2.stops
    phase_waits gate (phase.Preprocessing asks) waits = asks_wait waits.0 gate asks asks.next waits.1
    phase_waits gate (phase.Routing routing calls head) waits = stage_waits (record { at = waits.1; faults = [] }) routing.live routing.stage waits.2
    phase_waits gate (phase.Refusing routing) waits = stage_waits first routing.live routing.stage waits.1
    phase_waits gate (phase.Finalizing answers calls head moment) waits = answers_wait waits.0 gate answers answers.next waits.1

    -- what an exchange waited for that was Pending
    pub may_wait : (gate : Gate) (now : Option (SeenPhase V (Body (Cancellable S)) C R F FTask GTask H HTask K KTask N)) → ExchangeGives rel first tables (waits_of sources shuts polled) gate now Pending → MayBePending rel sources tables
    may_wait gate None gives = absurd gives
    may_wait gate (Some now) gives = phase_waits gate now gives.1
