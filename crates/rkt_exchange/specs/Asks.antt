-- The fairings that are called for a request, in order.
use Rattle.std.specs.Prelude.{◌≡◌, ℕ, List, Option, Some, None, max}
use Rattle.rkt_router.specs.Callbacks.{RequestAt}
use Rattle.rkt_fairing.specs.Fairings.{SeenFairings}
use Rattle.rkt_fairing.specs.declared.callback.Callback.TheVariants.{Request}
use Rattle.rkt_fairing.specs.declared.slot.Slot.{Slot}
use Rattle.rkt_request.specs.Lent.{Lent}
use Rattle.rkt_request.specs.Seen.{Seen}
use Rattle.rkt_router.specs.Calling.{Calling}
use Rattle.rkt_router.specs.Calls.{GateRule, any_gate}
use Rattle.rkt_router.specs.declared.turn.Final.{Final}
use Rattle.rkt_routing.specs.Backs.{Backs}
use Rattle.rkt_routing.specs.declared.progress.Progress.{Progress}
use Rattle.rkt_routing.specs.declared.progress.Progress.TheVariants as progress
use Rattle.rkt_routing.specs.declared.run.Call.{Call}
use Rattle.rkt_routing.specs.declared.run.Which.TheVariants as which
use Rattle.rkt_source.specs.declared.source.Gate.{Gate}
use Rattle.rkt_turn.specs.HandsBack.{HandsBack}
use Rattle.rkt_turn.specs.Shutdown.{Handle}
use Rattle.rkt_exchange.specs.Chain.{Called, CallStands, CallWaits, Chain, Chained, Ends}
use Rattle.rkt_exchange.specs.declared.calls.PreprocessedOf.{PreprocessedOf}
use Rattle.rkt_exchange.specs.declared.calls.PreprocessedOf.TheVariants as asked
use Rattle.rkt_exchange.specs.declared.calls.Arrival.{Arrival}
use Rattle.rkt_exchange.specs.declared.calls.FairingTask.{FairingTask}

-- V is the type of managed values, B that of bodies, C that of cached values, F that of fairings

-- what fairings may change
abbrev pub asked_at : {V B C : Type 0} → Arrival (Seen V) B (Lent C) → RequestAt V B C
asked_at arrival = record { request = arrival.live.request; body = arrival.body; kept = arrival.live.ctx.kept }

-- the calls as contracts see them
pub record Asks (V B C F Task : Type 0) : Type 0 where
  pub fairings : SeenFairings F
  pub turns : ℕ
  pub lent : Arrival (Seen V) B (Lent C)
  pub next : Option (FairingTask Task)

module _ {V B C F Task : Type 0} (calling : Calling (Slot F) (Unit {0}) (RequestAt V B C) (Unit {0}) (Option Task))
    (rule : GateRule) where
  -- the fairings of the list of requests; none of the turns counts as one
  abbrev pub asking : SeenFairings F → ℕ → Chain F (Unit {0}) (RequestAt V B C) Task C
  asking fairings turns = record {
    calling = calling;
    gates = rule;
    turns = max turns 1;
    fairings = fairings;
    event = Request;
    handed = tt;
    which = which.Request;
    kept = λ at. at.kept;
  }

  module _ (fairings : SeenFairings F) (turns : ℕ) (first : RequestAt V B C) where
    -- these calls lead from the first to what they leave
    abbrev pub Leads : List Call → RequestAt V B C → Type 0
    Leads calls at = Chained (asking fairings turns) 0 first calls (Ends at)

    -- a call is under way, or all were made
    pub record AskInvariant (arrival : Arrival (Seen V) B (Lent C)) (next : Option (FairingTask Task)) : Type 0 where
      pub calls : CallStands (asking fairings turns) Leads first.kept.shutdown Ends (asked_at arrival) arrival.live.calls next

    -- one was made, and this is its reply
    abbrev pub AskedSo : Arrival (Seen V) B (Lent C) → ℕ → Final (Unit {0}) → Type 0
    AskedSo arrival = Called (asking fairings turns) Leads first.kept.shutdown Ends (asked_at arrival) arrival.live.calls

    -- one was Pending under this Gate
    abbrev pub Pends : Gate → Arrival (Seen V) B (Lent C) → Option (FairingTask Task) → Type 0
    Pends gate arrival None = ⊥
    Pends gate arrival (Some call) =
        CallWaits (asking fairings turns) Leads first.kept.shutdown Ends gate (asked_at arrival) arrival.live.calls call

    -- all were called, and left this; each word that a call recorded is the one that the handle has seen
    abbrev pub AskedAt : PreprocessedOf (Seen V) B (Lent C) Handle → Type 0
    AskedAt (asked.Done arrival) =
        Leads arrival.live.calls (asked_at arrival)
        × Backs first.kept.shutdown arrival.live.ctx.kept.shutdown arrival.live.calls
    AskedAt (asked.Starved shutdown) = HandsBack first.kept.shutdown shutdown

  -- what the calls stand for
  unfoldable pub InvariantFor : RequestAt V B C → Asks V B C F Task → Type 0
  InvariantFor first asks = AskInvariant asks.fairings asks.turns first asks.lent asks.next

  -- what a poll under a Gate gives
  unfoldable pub AskedGives : RequestAt V B C → SeenFairings F → ℕ → Gate
      → Progress (Asks V B C F Task) (PreprocessedOf (Seen V) B (Lent C) Handle)
      → Type 0
  AskedGives first fairings turns gate (progress.Pending asks) =
      (asks.fairings ≡ fairings)
      × (asks.turns ≡ turns)
      × AskInvariant fairings turns first asks.lent asks.next
      × Pends fairings turns first gate asks.lent asks.next
  AskedGives first fairings turns gate (progress.Ready asked) = AskedAt fairings turns first asked

-- they stand for some beginning
pub record IsSound {V B C F Task : Type 0} (calling : Calling (Slot F) (Unit {0}) (RequestAt V B C) (Unit {0}) (Option Task))
    (asks : Asks V B C F Task) : Type 0 where
  pub first : RequestAt V B C
  pub stands : InvariantFor calling any_gate first asks
