-- Callbacks that an author writes as one answer, and proves nothing of.
use Rattle.std.specs.Prelude.{◌≡◌, ◌∷◌, [], ℕ, List, Option, IfSome, Ok, Err, Result, ⊤}
use Rattle.std.proofs.Common.{refl}
use Rattle.rkt_base.specs.declared.want.Want.{Want}
use Rattle.rkt_base.specs.declared.want.Want.TheVariants as want
use Rattle.rkt_http.specs.declared.outcome.Outcome.{Outcome}
use Rattle.rkt_http.specs.declared.outcome.Outcome.TheVariants.{Success, Error, Forward}
use Rattle.rkt_http.specs.declared.status.Status.{Status}
use Rattle.rkt_message.specs.Response.{ResponseOf}
use Rattle.rkt_request.specs.Lent.{Grows, Kept, Lent}
use Rattle.rkt_request.specs.Seen.{Seen}
use Rattle.rkt_response.specs.Responder.{Answer}
use Rattle.rkt_answers.specs.Replies.{MadeBy, reply_of}
use Rattle.rkt_router.specs.Callbacks.{GivesBack, Handed, Keeps, KeepsHandler, Refused, Reply}
use Rattle.rkt_router.specs.Calling.{Calling}
use Rattle.rkt_source.specs.declared.source.Gate.{Gate}
use Rattle.rkt_router.specs.declared.step.Step.{Step}
use Rattle.rkt_router.specs.declared.step.Step.TheVariants.{Done, Starved}

-- A value was made, and answered so: Made says which value may be made of what is lent and what that leaves, and May what a
-- value may answer. C is the type of cached values, A that of answers, X that of values.
pub record Responds {C A X : Type 0}
    (Made : Lent C → X → Lent C → Type 0) (May : X → Lent C → A → Lent C → Type 0)
    (before : Lent C) (answer : A) (after : Lent C) : Type 0 where
  pub value : X
  -- what is lent to the value
  pub between : Lent C
  pub made : Made before value between
  pub may : May value between answer after

-- what a callback may change, lent under a Gate
abbrev pub lent_under : {C : Type 0} → Gate → Kept C → Lent C
lent_under gate kept = record { kept = kept; gate = gate }

-- A call that is done at its first poll, from what stood before it and under the one Gate that it was shown: it is never
-- Pending and answers no Fault. The task holds what it needs of what it was handed until then; where that poll found no memory,
-- no later one finds any.
abbrev pub in_one : {Self H C A T : Type 0} → (Self → H → T → Type 0) → (Self → H → Lent C → A → Lent C → Type 0)
    → Calling Self H (Kept C) A (Option T)
in_one {C = C} Holds may = record {
  may = λ callback handed before gates answer after. (gate : Gate) × (gates ≡ gate ∷ [])
      × may callback handed (lent_under gate before) answer (lent_under gate after) × Grows before after;
  begun = λ callback handed task before now gates n.
      IfSome task (λ held. Holds callback handed held × (now ≡ before) × (gates ≡ []))
      × Grows before now × (n ≡ 0);
  pendings = λ callback handed before. 0;
  may_fault = λ callback handed before. ⊥;
}

-- a handler that answers with a value
abbrev pub answering : {Self V B C R X : Type 0} → (Self → Seen V → Lent C → X → Lent C → Type 0)
    → (X → Seen V → Lent C → Answer R → Lent C → Type 0) → Calling Self (Handed V B) (Kept C) (Reply R B) (Option (Unit {0}))
answering Made May = in_one (λ handler handed held. ⊤)
    (λ handler handed before reply after.
    MadeBy (λ answer. Responds (Made handler handed.request) (λ value. May value handed.request) before answer after) reply)

-- what an outcome replies: what its value's responder does, its status, or the body, left with its status
abbrev pub RepliesAs : {C R B X : Type 0} → (X → Lent C → Answer R → Lent C → Type 0) → B → Outcome X Status Status → Lent C
    → Reply R B → Lent C → Type 0
RepliesAs May body (Success value) between reply left = MadeBy (λ answer. May value between answer left) reply
RepliesAs May body (Error status) between reply left = (reply ≡ Error status) × (left ≡ between)
RepliesAs May body (Forward status) between reply left = (reply ≡ Forward (body, status)) × (left ≡ between)

-- a handler that answers with a value, with a status, or leaves the request to another route
abbrev pub attempting : {Self V B C R X : Type 0} → (Self → Seen V → Lent C → Outcome X Status Status → Lent C → Type 0)
    → (X → Seen V → Lent C → Answer R → Lent C → Type 0) → Calling Self (Handed V B) (Kept C) (Reply R B) (Option B)
attempting Made May = in_one (λ handler handed body. body ≡ handed.body)
    (λ handler handed before reply after.
    Responds (Made handler handed.request) (RepliesAs (λ value. May value handed.request) handed.body) before reply after)

-- a catcher that answers with a value
abbrev pub catching : {Self V C R X : Type 0} → (Self → Refused V → Lent C → X → Lent C → Type 0)
    → (X → Seen V → Lent C → Answer R → Lent C → Type 0)
    → Calling Self (Refused V) (Kept C) (Result (ResponseOf R) Status) (Option Status)
catching Made May = in_one (λ catcher refused status. status ≡ refused.status)
    (λ catcher refused before answer after.
    Responds (Made catcher refused) (λ value. May value refused.request) before answer after)

-- the step of a catcher whose responder answers so
abbrev pub answer_step : {R : Type 0} → Result (ResponseOf R) (Want Status) → Step (Answer R)
answer_step (Ok response) = Done (Ok response)
answer_step (Err (want.Refused status)) = Done (Err status)
answer_step (Err want.NoMemory) = Starved

-- that they keep their laws
no_forward : {R B : Type 0} (whole : B → Option (List ℕ)) (body : B) (answer : Answer R)
    → GivesBack whole body (reply_of answer)
no_forward whole body (Ok response) = tt
no_forward whole body (Err status) = tt

pub answering_keeps : {Self V B C R X : Type 0} (whole : B → Option (List ℕ))
    (Made : Self → Seen V → Lent C → X → Lent C → Type 0) (May : X → Seen V → Lent C → Answer R → Lent C → Type 0)
    → KeepsHandler whole (answering Made May)
answering_keeps whole Made May = record {
  keeps = record {
    done = λ handler handed before after gates reply is. is.3;
    begun = λ handler handed task before now gates n begun. begun.1;
  };
  forwards = λ handler handed before after gates reply is. rw is.2.2 (no_forward whole handed.body is.2.0);
}

pub catching_keeps : {Self V C R X : Type 0} (Made : Self → Refused V → Lent C → X → Lent C → Type 0)
    (May : X → Seen V → Lent C → Answer R → Lent C → Type 0)
    → Keeps (catching Made May)
catching_keeps Made May = record {
  done = λ catcher refused before after gates answer is. is.3;
  begun = λ catcher refused task before now gates n begun. begun.1;
}

replies_back : {C R B X : Type 0} (whole : B → Option (List ℕ)) (May : X → Lent C → Answer R → Lent C → Type 0) (body : B)
    (outcome : Outcome X Status Status) (between : Lent C) (reply : Reply R B) (left : Lent C)
    → RepliesAs May body outcome between reply left
    → GivesBack whole body reply
replies_back whole May body (Success value) between reply left is = rw is.2 (no_forward whole body is.0)
replies_back whole May body (Error status) between reply left is = rw is.0 tt
replies_back whole May body (Forward status) between reply left is = rw is.0 refl

pub attempting_keeps : {Self V B C R X : Type 0} (whole : B → Option (List ℕ))
    (Made : Self → Seen V → Lent C → Outcome X Status Status → Lent C → Type 0)
    (May : X → Seen V → Lent C → Answer R → Lent C → Type 0)
    → KeepsHandler whole (attempting Made May)
attempting_keeps whole Made May = record {
  keeps = record {
    done = λ handler handed before after gates reply is. is.3;
    begun = λ handler handed task before now gates n begun. begun.1;
  };
  forwards = λ handler handed before after gates reply is.
      replies_back whole _ handed.body is.2.value is.2.between reply (lent_under is.0 after) is.2.may;
}
