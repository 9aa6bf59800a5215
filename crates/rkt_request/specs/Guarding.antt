-- What a data guard means, and what one poll of its reading answers.
use Rattle.std.specs.Prelude.{⊤, ℕ, ◌+◌, ◌<◌, ◌++◌, ◌∷◌, [], List, Option, Some, None, Result, Ok, Err}
use Rattle.rkt_base.specs.declared.poll.Poll.{Poll}
use Rattle.rkt_base.specs.declared.poll.Poll.TheVariants.{Ready, Pending}
use Rattle.rkt_source.specs.declared.source.Gate.{Gate}
use Rattle.rkt_http.specs.declared.outcome.Outcome.{Outcome}
use Rattle.rkt_http.specs.declared.status.Status.{Status}
use Rattle.rkt_request.specs.Seen.{Seen}

-- what a guard G answers in the end: its value, an error with a status, or the body B, left to another with a status
abbrev pub Guarded : Type 0 → Type 0 → Type 0 → Type 0
Guarded B G E = Outcome G (Status × E) (B × Status)

-- V is the type of the managed values, E that of the errors and R that of the readings
pub record Guarding (V B G E R : Type 0) : Type 1 where
  -- a reading was begun for this request and body, and polled under these Gates, n times Pending
  pub begun : Seen V → B → List Gate → ℕ → R → Type 0
  -- what may be answered in the end, polled under these Gates
  pub may : Seen V → B → List Gate → Guarded B G E → Type 0
  -- how often a reading may be Pending, where it tells that
  pub pendings : Seen V → B → Option ℕ

-- a guard that says nothing: it may answer anything, and be Pending however often
abbrev pub any_guard : {V B G E R : Type 0} → Guarding V B G E R
any_guard =
    record { begun = λ request body gates n reading. ⊤; may = λ request body gates outcome. ⊤; pendings = λ request body. None }

-- one Pending more, behind n of them, is within the bound, where there is one
abbrev pub IsWithin : Option ℕ → ℕ → Type 0
IsWithin None n = ⊤
IsWithin (Some most) n = n < most

module _ {V B G E R : Type 0} (D : Guarding V B G E R) where
  -- a reading that may be polled
  abbrev pub CanRead : R → Type 0
  CanRead reading = (request : Seen V) × (body : B) × (gates : List Gate) × (n : ℕ) × D.begun request body gates n reading

  -- the answer of the last of these polls, of a reading that was Pending n times before; nothing is told of one that
  -- found no memory
  abbrev pub AnswersData : {W : Type 0} → Seen V → B → List Gate → ℕ → Poll (Result (Guarded B G E) W) → R → Type 0
  AnswersData request body gates n Pending reading =
      IsWithin (D.pendings request body) n × D.begun request body gates (n + 1) reading
  AnswersData request body gates n (Ready (Ok outcome)) reading = D.may request body gates outcome
  AnswersData request body gates n (Ready (Err e)) reading = ⊤

  -- what a poll gives, whatever the reading was begun for
  abbrev pub ReadsOn : {W : Type 0} → R → Gate → Poll (Result (Guarded B G E) W) → R → Type 0
  ReadsOn old gate answer new =
      (request : Seen V) (body : B) (gates : List Gate) (n : ℕ)
      → D.begun request body gates n old
      → AnswersData request body (gates ++ gate ∷ []) n answer new
