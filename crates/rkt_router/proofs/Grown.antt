-- What a callback may change has grown with each poll.
use Rattle.std.specs.Prelude.{ℕ, List, ◌++◌, ◌∷◌, []}
use Rattle.rkt_source.specs.declared.source.Gate.{Gate}
use Rattle.rkt_request.specs.Lent.{Kept, Grows}
use Rattle.rkt_router.specs.Callbacks.{Keeps}
use Rattle.rkt_router.specs.Calling.{Calling, AnswersPoll, Polls}
use Rattle.rkt_router.specs.Calls.{GateRule, Making}
use Rattle.rkt_router.specs.declared.step.Step.{Step}
use Rattle.rkt_router.specs.declared.step.Step.TheVariants as step

module _ {Self H X A Task : Type 0} (C : Calling Self H (Kept X) A Task) (keeps : Keeps C) (callback : Self) (handed : H) where
  answer_grows : (before now : Kept X) (gates : List Gate) (n : ℕ) (task : Task) (answer : Step A) → AnswersPoll C callback handed before gates n answer task now → Grows before now
  answer_grows before now gates n task step.Pending is = keeps.begun _ _ _ _ _ _ _ is.1
  answer_grows before now gates n task (step.Done answer) is = keeps.done _ _ _ _ _ _ is
  answer_grows before now gates n task step.Fault is = keeps.begun _ _ _ _ _ _ _ is.1
  answer_grows before now gates n task step.Starved is = keeps.begun _ _ _ _ _ _ _ is

  pub poll_grows : (rule : GateRule) (turns : ℕ) (before was now : Kept X) (gate : Gate) (turn : ℕ) (old new : Task) (answer : Step A)
      → Making C rule turns callback handed before old was turn → Polls C callback handed old was gate answer new now → Grows before now
  poll_grows rule turns before was now gate turn old new answer making polls =
      answer_grows before now (making.gates ++ gate ∷ []) turn new answer (polls before making.gates turn making.goes.begun)
