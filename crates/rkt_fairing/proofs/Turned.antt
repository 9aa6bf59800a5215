-- What a fairing may change has grown with each poll.
use Rattle.std.proofs.Common.{ℕ, List, ◌++◌, ◌∷◌, []}
use Rattle.rkt_source.specs.declared.source.Gate.{Gate}
use Rattle.rkt_request.specs.Lent.{Grows}
use Rattle.rkt_router.specs.Calling.{Calling, AnswersPoll, Polls}
use Rattle.rkt_router.specs.Calls.{GateRule, Making}
use Rattle.rkt_router.specs.declared.step.Step.{Step}
use Rattle.rkt_router.specs.declared.step.Step.TheVariants as step
use Rattle.rkt_router.specs.Callbacks.{RequestAt}
use Rattle.rkt_fairing.specs.Callbacks.{KeepsRequest, KeepsResponse, RequestGrows, ResponseAt}

module _ {F H Held A Task : Type 0} (C : Calling F H Held A Task) (fairing : F) (handed : H) (Law : Held → Held → Type 0)
    (done : (before after : Held) (gates : List Gate) (answer : A) → C.may fairing handed before gates answer after → Law before after)
    (begun : (task : Task) (before now : Held) (gates : List Gate) (n : ℕ) → C.begun fairing handed task before now gates n → Law before now) where
  answer_keeps : (before now : Held) (gates : List Gate) (n : ℕ) (task : Task) (answer : Step A) → AnswersPoll C fairing handed before gates n answer task now → Law before now
  answer_keeps before now gates n task step.Pending is = begun _ _ _ _ _ is.1
  answer_keeps before now gates n task (step.Done answer) is = done _ _ _ _ is
  answer_keeps before now gates n task step.Fault is = begun _ _ _ _ _ is.1
  answer_keeps before now gates n task step.Starved is = begun _ _ _ _ _ is

  poll_keeps : (rule : GateRule) (turns : ℕ) (before was now : Held) (gate : Gate) (turn : ℕ) (old new : Task) (answer : Step A)
      → Making C rule turns fairing handed before old was turn → Polls C fairing handed old was gate answer new now → Law before now
  poll_keeps rule turns before was now gate turn old new answer making polls =
      answer_keeps before now (making.gates ++ gate ∷ []) turn new answer (polls before making.gates turn making.goes.begun)

pub request_poll_grows : {F H V B X A Task : Type 0} (C : Calling F H (RequestAt V B X) A Task) → KeepsRequest C → (fairing : F) (handed : H) (rule : GateRule) (turns : ℕ) (before was now : RequestAt V B X) (gate : Gate) (turn : ℕ)
    (old new : Task) (answer : Step A) → Making C rule turns fairing handed before old was turn → Polls C fairing handed old was gate answer new now → RequestGrows before now
request_poll_grows C keeps fairing handed = poll_keeps C fairing handed RequestGrows (keeps.done fairing handed) (keeps.begun fairing handed)

pub response_poll_grows : {F H S X A Task : Type 0} (C : Calling F H (ResponseAt S X) A Task) → KeepsResponse C → (fairing : F) (handed : H) (rule : GateRule) (turns : ℕ) (before was now : ResponseAt S X) (gate : Gate) (turn : ℕ)
    (old new : Task) (answer : Step A) → Making C rule turns fairing handed before old was turn → Polls C fairing handed old was gate answer new now → Grows before.kept now.kept
response_poll_grows C keeps fairing handed = poll_keeps C fairing handed (λ before now. Grows before.kept now.kept) (keeps.done fairing handed) (keeps.begun fairing handed)
