-- What a callback means that is polled until it is done, and what one poll of it answers.
use Rattle.std.specs.Prelude.{ℕ, ◌+◌, ◌<◌, List, [], ◌∷◌, ◌++◌}
use Rattle.rkt_source.specs.declared.source.Gate.{Gate}
use Rattle.rkt_router.specs.declared.step.Step.{Step}
use Rattle.rkt_router.specs.declared.step.Step.TheVariants.{Pending, Done, Fault, Starved}

-- what one kind of callback means: Handed is what a call is handed and cannot change, and Held all that it may change
pub record Calling (Self Handed Held Answer Task : Type 0) : Type 1 where
  -- what a call may answer, and what it leaves, polled under these Gates
  pub may : Self → Handed → Held → List Gate → Answer → Held → Type 0
  -- a task was started for what is handed, and polled under these Gates, n times Pending; before its first poll stood the
  -- first of what it may change, and now stands the second
  pub begun : Self → Handed → Task → Held → Held → List Gate → ℕ → Type 0
  -- how often a call may be Pending
  pub pendings : Self → Handed → Held → ℕ
  -- whether a call may answer Fault
  pub may_fault : Self → Handed → Held → Type 0

module _ {Self Handed Held Answer Task : Type 0} (C : Calling Self Handed Held Answer Task) (callback : Self)
    (handed : Handed) where
  -- a task that was started and not polled
  abbrev pub Starts : Task → Type 0
  Starts task = (before : Held) → C.begun callback handed task before before [] 0

  -- a task that may be polled
  abbrev pub CanPoll : Task → Held → Type 0
  CanPoll task now = (before : Held) × (gates : List Gate) × (n : ℕ) × C.begun callback handed task before now gates n

  -- the answer of the last of these polls, of a task that was begun so: Pending comes only below the bound
  abbrev pub AnswersPoll : Held → List Gate → ℕ → Step Answer → Task → Held → Type 0
  AnswersPoll before gates n Pending task now =
      (n < C.pendings callback handed before) × C.begun callback handed task before now gates (n + 1)
  AnswersPoll before gates n (Done answer) task now = C.may callback handed before gates answer now
  AnswersPoll before gates n Fault task now =
      C.may_fault callback handed before × C.begun callback handed task before now gates n
  AnswersPoll before gates n Starved task now = C.begun callback handed task before now gates n

  -- what a poll gives, whatever the task was begun from
  abbrev pub Polls : Task → Held → Gate → Step Answer → Task → Held → Type 0
  Polls old was gate step new now =
      (before : Held) (gates : List Gate) (n : ℕ)
      → C.begun callback handed old before was gates n
      → AnswersPoll before (gates ++ gate ∷ []) n step new now
