-- How a call begins, goes on and ends.
use Rattle.std.specs.Prelude.{◌≡◌, ◌≢◌, ◌≤◌, ◌<◌, ◌+◌, ◌++◌, ◌∷◌, ◌↔◌, ℕ, Bool, true, false, IsTrue, [], length}
use Rattle.std.specs.List.{All}
use Rattle.std.proofs.Common.{arith, inl, inr, refl, subst, sym}
use Rattle.std.proofs.lemmas.Bool.{true≢false}
use Rattle.std.proofs.lemmas.List.{length_push}
use Rattle.std.proofs.lemmas.List.Elements.{All-nil, All-push}
use Rattle.rkt_source.specs.declared.source.Gate.{Gate}
use Rattle.rkt_router.specs.Calling.{Calling, Starts, Polls, AnswersPoll}
use Rattle.rkt_router.specs.Calls.{GateRule, GateFits, any_gate, Gives, GoesOn, Made, Making, OnceOver, PolledAs, turn_of}
use Rattle.rkt_router.specs.declared.step.Step.{Step}
use Rattle.rkt_router.specs.declared.step.Step.TheVariants as step
use Rattle.rkt_router.specs.declared.turn.Final.{Final}
use Rattle.rkt_router.specs.declared.turn.Final.TheVariants as final

-- every Gate fits the rule that says nothing
pub any_gate_fits : (gate : Gate) → GateFits any_gate gate
any_gate_fits gate = record { moment = tt; delays = tt; trip = λ same. absurd (true≢false same); shown = tt }

-- a fact of a call that was not starved, made of another
pub OnceOver-map : {O : Type 0} (reply : Final O) {P Q : Type 0} → (P → Q) → OnceOver reply P → OnceOver reply Q
OnceOver-map (final.Done answer) f p = f p
OnceOver-map final.FailedTurn f p = f p
OnceOver-map final.Starved f p = tt

module _ {Self Handed Held Answer Task : Type 0} (C : Calling Self Handed Held Answer Task) (rule : GateRule) (turns : ℕ)
    (callback : Self) (handed : Handed) where
  -- a call that was started is under way after no turn
  pub making_begins : {before : Held} {task : Task}
      → 1 ≤ turns
      → Starts C callback handed task
      → Making C rule turns callback handed before task before 0
  making_begins {before} some starts = record {
    gates = [];
    within = All-nil (GateFits rule);
    polls = refl;
    goes = record { begun = starts before; more = some; bounded = omega arith };
  }

  -- what a poll answers of a call that is under way is a turn
  module _ (before was : Held) (old : Task) (turn : ℕ) (making : Making C rule turns callback handed before old was turn)
      (gate : Gate) (fits : GateFits rule gate) where
    within : All (GateFits rule) (making.gates ++ gate ∷ [])
    within = All-push (GateFits rule) making.gates gate making.within fits

    one_more : length (making.gates ++ gate ∷ []) ≡ turn + 1
    one_more = let pushed = length_push making.gates gate in let polled = making.polls in omega (arith, pushed, polled)

    over : (reply : Final Answer) (now : Held)
        → reply ≢ final.Starved
        → Gives C callback handed turns before (making.gates ++ gate ∷ []) reply now
        → Made C rule turns callback handed before reply now
    over reply now ended gives = record {
      gates = making.gates ++ gate ∷ [];
      within = within;
      earlier = making.gates;
      last = gate;
      polls = refl;
      task = old;
      now = was;
      goes = subst (λ n. GoesOn C callback handed turns before making.gates old was n) (sym making.polls) making.goes;
      ended = ended;
      gives = gives;
    }

    made : (now : Held) (task : Task) (left : Bool)
        → (IsTrue left ↔ (turn + 1 < turns))
        → (answer : Step Answer)
        → AnswersPoll C callback handed before (making.gates ++ gate ∷ []) turn answer task now
        → PolledAs C rule turns callback handed before (turn_of left answer) task now (turn + 1)
    made now task true is_left step.Pending is = record {
      gates = making.gates ++ gate ∷ [];
      within = within;
      polls = one_more;
      goes = record { begun = is.1; more = is_left.0 refl; bounded = omega (arith, is.0) };
    }
    made now task false is_left step.Pending is =
        let last : ¬ (turn + 1 < turns) = λ more. true≢false (sym (is_left.1 more)) in
        over final.FailedTurn now (grind arith)
        (record { task = task; pended = turn + 1; begun = is.1; cause = inr (omega (arith, is.0, last)) })
    made now task left is_left (step.Done answer) is = over (final.Done answer) now (grind arith) is
    made now task left is_left step.Fault is =
        over final.FailedTurn now (grind arith) (record { task = task; pended = turn; begun = is.1; cause = inl is.0 })
    made now task left is_left step.Starved is = tt

  -- what a poll gives of a call that is under way is a turn
  pub turn_made : (before was now : Held) (gate : Gate) (old new : Task) (turn : ℕ) (left : Bool) (answer : Step Answer)
      → (IsTrue left ↔ (turn + 1 < turns))
      → GateFits rule gate
      → Making C rule turns callback handed before old was turn
      → Polls C callback handed old was gate answer new now
      → PolledAs C rule turns callback handed before (turn_of left answer) new now (turn + 1)
  turn_made before was now gate old new turn left answer is_left fits making polls =
      made before was old turn making gate fits now new left is_left answer (polls before making.gates turn making.goes.begun)
