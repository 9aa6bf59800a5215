-- Fairings that are called one after the other, in the order in which they were attached.
use Rattle.std.specs.Prelude.{◌≡◌, ◌-◌, ℕ, ◌+◌, List, [], ◌∷◌, Option, Some, None, MatchOption, length}
use Rattle.rkt_fairing.specs.Fairings.{SeenFairings, fairing_at}
use Rattle.rkt_fairing.specs.Places.{places_of}
use Rattle.rkt_fairing.specs.declared.callback.Callback.{Callback}
use Rattle.rkt_fairing.specs.declared.slot.Slot.{Slot}
use Rattle.rkt_request.specs.Lent.{Kept}
use Rattle.rkt_router.specs.Calling.{Calling}
use Rattle.rkt_router.specs.Calls.{GateRule, Made, Making, OnceOver}
use Rattle.rkt_router.specs.declared.turn.Final.{Final}
use Rattle.rkt_router.specs.declared.turn.Polled.{Polled}
use Rattle.rkt_router.specs.declared.turn.Polled.TheVariants as turn
use Rattle.rkt_routing.specs.Between.{BetweenOf}
use Rattle.rkt_routing.specs.Recorded.{recorded}
use Rattle.rkt_routing.specs.Invariant.{EndsWith}
use Rattle.rkt_routing.specs.declared.run.Call.{Call}
use Rattle.rkt_routing.specs.declared.run.Which.{Which}
use Rattle.rkt_source.specs.declared.source.Gate.{Gate}
use Rattle.rkt_turn.specs.HandsBack.{HandsBack}
use Rattle.rkt_turn.specs.Shutdown.{Handle}
use Rattle.rkt_exchange.specs.Recorded.{fairing_answer}
use Rattle.rkt_exchange.specs.declared.calls.FairingTask.{FairingTask}

-- which fairings are called, at which event, and what a call means. F is the type of fairings, A that of what they are handed,
-- X that of what they may change, Task that of their tasks, and C that of cached values
pub record Chain (F A X Task C : Type 0) : Type 1 where
  pub calling : Calling (Slot F) A X (Unit {0}) (Option Task)
  pub gates : GateRule
  -- as often as each may be polled
  pub turns : ℕ
  pub fairings : SeenFairings F
  pub event : Callback
  pub handed : A
  -- what is recorded of a call at a place, and of what it leaves
  pub which : ℕ → Which
  pub kept : X → Kept C

-- how many are to be called, where this one is being called
abbrev pub to_call : {F Task : Type 0} → Callback → SeenFairings F → Option (FairingTask Task) → ℕ
to_call event fairings None = 0
to_call event fairings (Some call) = length (places_of event fairings.places) - call.place

-- the call of the fairing at a place has begun, if there is one
abbrev pub Begins : {F Task : Type 0} → Callback → SeenFairings F → ℕ → (Slot F → Option Task → Type 0)
    → Option (FairingTask Task) → Type 0
Begins event fairings place Starts None = fairing_at event fairings place ≡ None
Begins {F} event fairings place Starts (Some call) =
    (fairing : Slot F)
    × (fairing_at event fairings place ≡ Some fairing)
    × (call.place ≡ place)
    × (call.turn ≡ 0)
    × Starts fairing call.task

module _ {F A X Task C : Type 0} (chain : Chain F A X Task C) where
  -- the fairing at a place was called, and left this; one that fails its turn is passed over
  pub record FairingCall (place : ℕ) (fairing : Slot F) (at : X) (call : Call) (after : X) : Type 0 where
    pub reply : Final (Unit {0})
    pub made : Made chain.calling chain.gates chain.turns fairing chain.handed at reply after
    pub kept_as : call ≡ recorded (chain.which place) (fairing_answer reply) (chain.kept after)

  -- from a place on they are called, and then
  abbrev pub Chained : ℕ → X → List Call → (X → List Call → Type 0) → Type 0
  Chained place at [] then_ = (fairing_at chain.event chain.fairings place ≡ None) × then_ at []
  Chained place at (call ∷ calls) then_ =
      MatchOption (fairing_at chain.event chain.fairings place) (then_ at (call ∷ calls)) (λ fairing.
      (after : X) × FairingCall place fairing at call after × Chained (place + 1) after calls then_)

-- no call follows, and this was left
abbrev pub Ends : {X : Type 0} → X → X → List Call → Type 0
Ends found at rest = (rest ≡ []) × (found ≡ at)

-- where a chain stands, of which a whole is a part: Y is the type of what the whole leads to
module _ {F A X Task C Y : Type 0} (chain : Chain F A X Task C) (Whole : List Call → Y → Type 0) (first : Handle)
    (follow : Y → X → List Call → Type 0) where
  -- they are to be called from a place on
  abbrev pub CallsFrom : X → List Call → ℕ → Type 0
  CallsFrom at calls place =
      BetweenOf Whole first (chain.kept at).shutdown calls (λ rest over. Chained chain place at rest (follow over))

  -- one is being called
  pub record CallsNow (now : X) (calls : List Call) (call : FairingTask Task) : Type 0 where
    pub before : X
    pub fairing : Slot F
    pub found : fairing_at chain.event chain.fairings call.place ≡ Some fairing
    pub between : CallsFrom before calls call.place
    pub making : Making chain.calling chain.gates chain.turns fairing chain.handed before call.task now call.turn

  -- one was called, and this is its reply
  pub record Called (now : X) (calls : List Call) (place : ℕ) (reply : Final (Unit {0})) : Type 0 where
    pub before : X
    pub fairing : Slot F
    pub found : fairing_at chain.event chain.fairings place ≡ Some fairing
    pub between : CallsFrom before calls place
    pub back : HandsBack (chain.kept before).shutdown (chain.kept now).shutdown
    pub made : OnceOver reply (Made chain.calling chain.gates chain.turns fairing chain.handed before reply now)

  -- one is being called, or all were
  abbrev pub CallStands : X → List Call → Option (FairingTask Task) → Type 0
  CallStands now calls None = BetweenOf Whole first (chain.kept now).shutdown calls (λ rest over. follow over now rest)
  CallStands now calls (Some call) = CallsNow now calls call

  -- one was Pending, and this is the Gate of its last poll
  abbrev pub CallWaits : Gate → X → List Call → FairingTask Task → Type 0
  CallWaits gate now calls call = (calling : CallsNow now calls call) × EndsWith calling.making.gates gate

  -- a turn of a call was made
  abbrev pub CallTurned : Gate → X → List Call → FairingTask Task → Polled (Unit {0}) → Type 0
  CallTurned gate now calls call turn.Pending = CallWaits gate now calls call
  CallTurned gate now calls call (turn.Over reply) = Called now calls call.place reply
