-- A call that was Pending is under way, and the last of its Gates is the one of that poll.
use Rattle.std.specs.Prelude.{◌≡◌, ◌+◌, ◌<◌, ◌≤◌, ◌++◌, ◌∷◌, [], ℕ, max}
use Rattle.std.proofs.Common.{arith, refl}
use Rattle.std.proofs.lemmas.List.{length_push}
use Rattle.std.proofs.lemmas.List.Elements.{All-push}
use Rattle.rkt_source.specs.declared.source.Gate.{Gate}
use Rattle.rkt_router.specs.Calling.{Calling, Polls}
use Rattle.rkt_router.specs.Calls.{GateRule, GateFits, Making}
use Rattle.rkt_router.specs.declared.step.Step.TheVariants as step

pub some_turns : (n : ℕ) → 1 ≤ max n 1
some_turns n = grind arith

module _ {Self Handed Held Answer Task : Type 0} (C : Calling Self Handed Held Answer Task) (rule : GateRule) (turns : ℕ)
    (callback : Self) (handed : Handed) where
  -- which Gates it was polled under
  abbrev pub Pends : (before was now : Held) (gate : Gate) (old new : Task) (turn : ℕ)
      → Making C rule turns callback handed before old was turn → Type 0
  Pends before was now gate old new turn making =
      (after : Making C rule turns callback handed before new now (turn + 1)) × (after.gates ≡ making.gates ++ gate ∷ [])

  pub pends : (before was now : Held) (gate : Gate) (old new : Task) (turn : ℕ)
      → turn + 1 < turns
      → GateFits rule gate
      → (making : Making C rule turns callback handed before old was turn)
      → Polls C callback handed old was gate step.Pending new now
      → Pends before was now gate old new turn making
  pends before was now gate old new turn more fits making polls =
      let polled = polls before making.gates turn making.goes.begun in (
        record {
          gates = making.gates ++ gate ∷ [];
          within = All-push (GateFits rule) making.gates gate making.within fits;
          polls = let pushed = length_push making.gates gate in let polled = making.polls in omega (arith, pushed, polled);
          goes = record { begun = polled.1; more = more; bounded = omega (arith, polled.0) };
        },
        refl,
      )
