-- One call of a callback, from its start to its end: the Gates that it is polled under, what it gives, and what each of its
-- turns makes of it.
use Rattle.std.specs.Prelude.{◌≡◌, ◌≢◌, ◌≤◌, ◌<◌, ◌++◌, ◌∷◌, ◌⊎◌, [], ℕ, List, Bool, true, false, Option, None, IfSome, IsNone, length, ⊤}
use Rattle.std.specs.List.{All, IsAmong}
use Rattle.rkt_source.specs.declared.source.Gate.{Gate}
use Rattle.rkt_router.specs.Calling.{Calling}
use Rattle.rkt_router.specs.declared.step.Step.{Step}
use Rattle.rkt_router.specs.declared.step.Step.TheVariants as step
use Rattle.rkt_router.specs.declared.turn.Final.{Final}
use Rattle.rkt_router.specs.declared.turn.Final.TheVariants.{Done, FailedTurn, Starved}
use Rattle.rkt_router.specs.declared.turn.Polled.{Polled}
use Rattle.rkt_router.specs.declared.turn.Polled.TheVariants.{Pending, Over}

-- which Gates a call may be polled under
pub record GateRule : Type 0 where
  -- the first and the last moment
  pub window : Option (ℕ × ℕ)
  -- the grace and the mercy
  pub delays : Option (ℕ × ℕ)
  -- whether the word of a trip may be shown
  pub may_trip : Bool
  -- the Gates themselves, where they are told
  pub shown : Option (List Gate)

-- the rule that every Gate fits
abbrev pub any_gate : GateRule
any_gate = record { window = None; delays = None; may_trip = true; shown = None }

-- a moment is in a window, where there is one
abbrev pub InWindow : Option (ℕ × ℕ) → ℕ → Type 0
InWindow window moment = IfSome window (λ w. (w.0 ≤ moment) × (moment ≤ w.1))

-- a Gate fits a rule
pub record GateFits (rule : GateRule) (gate : Gate) : Type 0 where
  pub moment : InWindow rule.window gate.moment
  pub delays : IfSome rule.delays (λ d. (gate.grace ≡ d.0) × (gate.mercy ≡ d.1))
  pub trip : rule.may_trip ≡ false → IsNone gate.tripped
  pub shown : IfSome rule.shown (λ gates. IsAmong gates gate)

-- a fact of a call that was not starved
abbrev pub OnceOver : {O : Type 0} → Final O → Type 0 → Type 0
OnceOver (Done answer) P = P
OnceOver FailedTurn P = P
OnceOver Starved P = ⊤

-- the turn that a poll makes, where a turn is left behind it or not: one that is Pending at the last turn fails it
abbrev pub turn_of : {O : Type 0} → Bool → Step O → Polled O
turn_of true step.Pending = Pending
turn_of false step.Pending = Over FailedTurn
turn_of left (step.Done answer) = Over (Done answer)
turn_of left step.Fault = Over FailedTurn
turn_of left step.Starved = Over Starved

module _ {Self Handed Held Answer Task : Type 0} (C : Calling Self Handed Held Answer Task) (callback : Self)
    (handed : Handed) where
  -- a call may fail its turn, of which there are so many, and this is what it leaves
  pub record Fails (turns : ℕ) (before : Held) (gates : List Gate) (after : Held) : Type 0 where
    pub task : Task
    pub pended : ℕ
    pub begun : C.begun callback handed task before after gates pended
    -- it may answer Fault, or be Pending at its last turn
    pub cause : C.may_fault callback handed before ⊎ (turns ≤ C.pendings callback handed before)

  -- a call may be left off where there is no memory, and this is what it leaves
  pub record Starves (before : Held) (gates : List Gate) (after : Held) : Type 0 where
    pub task : Task
    pub pended : ℕ
    pub begun : C.begun callback handed task before after gates pended

  -- what a whole call gives, polled under these Gates
  abbrev pub Gives : ℕ → Held → List Gate → Final Answer → Held → Type 0
  Gives turns before gates (Done answer) after = C.may callback handed before gates answer after
  Gives turns before gates FailedTurn after = Fails turns before gates after
  Gives turns before gates Starved after = Starves before gates after

  -- a call is under way after n turns, each of them Pending, and another turn is left
  pub record GoesOn (turns : ℕ) (before : Held) (gates : List Gate) (task : Task) (now : Held) (n : ℕ) : Type 0 where
    pub begun : C.begun callback handed task before now gates n
    pub more : n < turns
    pub bounded : n ≤ C.pendings callback handed before

module _ {Self Handed Held Answer Task : Type 0} (C : Calling Self Handed Held Answer Task) (rule : GateRule) (turns : ℕ)
    (callback : Self) (handed : Handed) where
  -- one whole call, under Gates of the rule
  pub record Made (before : Held) (reply : Final Answer) (after : Held) : Type 0 where
    pub gates : List Gate
    pub within : All (GateFits rule) gates
    -- its last poll was made with a turn left, behind those before it, each of them Pending
    pub earlier : List Gate
    pub last : Gate
    pub polls : gates ≡ earlier ++ last ∷ []
    pub task : Task
    pub now : Held
    pub goes : GoesOn C callback handed turns before earlier task now (length earlier)
    pub ended : reply ≢ Starved
    pub gives : Gives C callback handed turns before gates reply after

  -- a call under way after n turns, under Gates of the rule
  pub record Making (before : Held) (task : Task) (now : Held) (n : ℕ) : Type 0 where
    pub gates : List Gate
    pub within : All (GateFits rule) gates
    -- each turn is one poll
    pub polls : length gates ≡ n
    pub goes : GoesOn C callback handed turns before gates task now n

  -- what a call is after its n-th turn: under way, or whole, or it had no memory
  abbrev pub PolledAs : Held → Polled Answer → Task → Held → ℕ → Type 0
  PolledAs before Pending task now n = Making before task now n
  PolledAs before (Over reply) task now n = OnceOver reply (Made before reply now)
