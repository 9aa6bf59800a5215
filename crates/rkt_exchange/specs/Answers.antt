-- The fairings that are called for a response, in order.
use Rattle.std.specs.Prelude.{◌≡◌, ℕ, List, Option, Some, None, max}
use Rattle.rkt_fairing.specs.Callbacks.{ResponseAt}
use Rattle.rkt_fairing.specs.Fairings.{SeenFairings}
use Rattle.rkt_fairing.specs.declared.callback.Callback.TheVariants as event
use Rattle.rkt_fairing.specs.declared.slot.Slot.{Slot}
use Rattle.rkt_request.specs.Lent.{Lent}
use Rattle.rkt_request.specs.Seen.{Seen}
use Rattle.rkt_router.specs.Calling.{Calling}
use Rattle.rkt_router.specs.Calls.{GateRule, any_gate}
use Rattle.rkt_router.specs.declared.turn.Final.{Final}
use Rattle.rkt_routing.specs.Backs.{Backs}
use Rattle.rkt_routing.specs.declared.progress.Progress.{Progress}
use Rattle.rkt_routing.specs.declared.progress.Progress.TheVariants as progress
use Rattle.rkt_routing.specs.declared.run.Call.{Call}
use Rattle.rkt_routing.specs.declared.run.Which.TheVariants as which
use Rattle.rkt_source.specs.declared.source.Gate.{Gate}
use Rattle.rkt_turn.specs.HandsBack.{HandsBack}
use Rattle.rkt_turn.specs.Shutdown.{Handle}
use Rattle.rkt_exchange.specs.Chain.{Called, CallStands, CallWaits, Chain, Chained, Ends}
use Rattle.rkt_exchange.specs.declared.calls.FinalizedOf.{FinalizedOf}
use Rattle.rkt_exchange.specs.declared.calls.FinalizedOf.TheVariants as answered
use Rattle.rkt_exchange.specs.declared.calls.Departure.{Departure}
use Rattle.rkt_exchange.specs.declared.calls.FairingTask.{FairingTask}

-- V is the type of managed values, C that of cached values, S that of streams, F that of fairings

-- what fairings may change
abbrev pub answered_at : {V C S : Type 0} → Departure (Seen V) (Lent C) S → ResponseAt S C
answered_at departure = record { response = departure.response; kept = departure.live.ctx.kept }

-- a response to a request, with what is lent beside it
pub record Outgoing (V C S : Type 0) : Type 0 where
  pub request : Seen V
  pub at : ResponseAt S C

-- the calls as contracts see them
pub record Answers (V C S F Task : Type 0) : Type 0 where
  pub fairings : SeenFairings F
  pub turns : ℕ
  pub lent : Departure (Seen V) (Lent C) S
  pub next : Option (FairingTask Task)

module _ {V C S F Task : Type 0} (calling : Calling (Slot F) (Seen V) (ResponseAt S C) (Unit {0}) (Option Task))
    (rule : GateRule) where
  -- the fairings of the list of responses; none of the turns counts as one
  abbrev pub answering : SeenFairings F → ℕ → Seen V → Chain F (Seen V) (ResponseAt S C) Task C
  answering fairings turns request = record {
    calling = calling;
    gates = rule;
    turns = max turns 1;
    fairings = fairings;
    event = event.Response;
    handed = request;
    which = which.Response;
    kept = λ at. at.kept;
  }

  module _ (fairings : SeenFairings F) (turns : ℕ) (first : Outgoing V C S) where
    -- these calls lead from the first to what they leave
    abbrev pub Leads : List Call → ResponseAt S C → Type 0
    Leads calls at = Chained (answering fairings turns first.request) 0 first.at calls (Ends at)

    -- a call is under way, or all were made; the request stays
    pub record AnswerInvariant (departure : Departure (Seen V) (Lent C) S) (next : Option (FairingTask Task)) : Type 0 where
      pub request : departure.live.request ≡ first.request
      pub calls : CallStands (answering fairings turns first.request) Leads first.at.kept.shutdown Ends
          (answered_at departure) departure.live.calls next

    -- one was made, and this is its reply
    pub record AnsweredSo (departure : Departure (Seen V) (Lent C) S) (place : ℕ) (reply : Final (Unit {0})) : Type 0 where
      pub request : departure.live.request ≡ first.request
      pub call : Called (answering fairings turns first.request) Leads first.at.kept.shutdown Ends
          (answered_at departure) departure.live.calls place reply

    -- one was Pending under this Gate
    abbrev pub Pends : Gate → Departure (Seen V) (Lent C) S → Option (FairingTask Task) → Type 0
    Pends gate departure None = ⊥
    Pends gate departure (Some call) =
        CallWaits (answering fairings turns first.request) Leads first.at.kept.shutdown Ends gate
        (answered_at departure) departure.live.calls call

    -- all were called, and left this; each word that a call recorded is the one that the handle has seen
    abbrev pub AnsweredAt : FinalizedOf (Seen V) (Lent C) S Handle → Type 0
    AnsweredAt (answered.Done departure) =
        (departure.live.request ≡ first.request)
        × Leads departure.live.calls (answered_at departure)
        × Backs first.at.kept.shutdown departure.live.ctx.kept.shutdown departure.live.calls
    AnsweredAt (answered.Starved shutdown) = HandsBack first.at.kept.shutdown shutdown

  -- what the calls stand for
  unfoldable pub InvariantFor : Outgoing V C S → Answers V C S F Task → Type 0
  InvariantFor first answers = AnswerInvariant answers.fairings answers.turns first answers.lent answers.next

  -- what a poll under a Gate gives
  unfoldable pub AnsweredGives : Outgoing V C S → SeenFairings F → ℕ → Gate
      → Progress (Answers V C S F Task) (FinalizedOf (Seen V) (Lent C) S Handle)
      → Type 0
  AnsweredGives first fairings turns gate (progress.Pending answers) =
      (answers.fairings ≡ fairings)
      × (answers.turns ≡ turns)
      × AnswerInvariant fairings turns first answers.lent answers.next
      × Pends fairings turns first gate answers.lent answers.next
  AnsweredGives first fairings turns gate (progress.Ready answered) = AnsweredAt fairings turns first answered

-- they stand for some beginning
pub record IsSound {V C S F Task : Type 0} (calling : Calling (Slot F) (Seen V) (ResponseAt S C) (Unit {0}) (Option Task))
    (answers : Answers V C S F Task) : Type 0 where
  pub first : Outgoing V C S
  pub stands : InvariantFor calling any_gate first answers
