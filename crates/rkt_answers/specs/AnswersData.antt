-- A handler that an author writes as one answer to what a body is read as.
use Rattle.std.specs.Prelude.{◌≡◌, ◌+◌, ◌<◌, ◌++◌, ◌∷◌, [], ℕ, List, Option, Some, None, IfSome, Ok, Err, length, min}
use Rattle.std.specs.Option.{option_map_or}
use Rattle.rkt_http.specs.declared.outcome.Outcome.TheVariants.{Success, Error, Forward}
use Rattle.rkt_request.specs.Guarding.{Guarded, Guarding}
use Rattle.rkt_request.specs.Lent.{Grows, Kept, Lent}
use Rattle.rkt_request.specs.LentLaws.{grows_same}
use Rattle.rkt_request.specs.Seen.{Seen}
use Rattle.rkt_response.specs.Responder.{Answer}
use Rattle.rkt_answers.specs.Answers.{Responds, lent_under}
use Rattle.rkt_answers.specs.Replies.{MadeBy, reply_of}
use Rattle.rkt_router.specs.Callbacks.{GivesBack, Handed, KeepsHandler, Reply}
use Rattle.rkt_router.specs.Calling.{Calling}
use Rattle.rkt_router.specs.declared.step.Step.{Step}
use Rattle.rkt_router.specs.declared.step.Step.TheVariants.{Pending, Done, Fault, Starved}
use Rattle.rkt_source.specs.declared.source.Gate.{Gate}
use Rattle.rkt_answers.specs.declared.answers_data.Taking.{Taking}

-- G is the type of what bodies are read as, E that of a guard's errors, X that of values, C that of cached values, R that of
-- streams, B that of bodies

-- what the outcome of the guard is answered with: what a value's responder does, or the status with which the body was refused
-- or left to another route
abbrev pub IsAnsweredAs : {C R B G E X : Type 0} → (G → Lent C → X → Lent C → Type 0)
    → (X → Lent C → Answer R → Lent C → Type 0)
    → Lent C → Guarded B G E → Reply R B → Lent C → Type 0
IsAnsweredAs Made May before (Success taken) reply after =
    MadeBy (λ answer. Responds (Made taken) May before answer after) reply
IsAnsweredAs Made May before (Error refused) reply after = (reply ≡ Error refused.0) × (after ≡ before)
IsAnsweredAs Made May before (Forward left) reply after = (reply ≡ Error left.1) × (after ≡ before)

-- how often a task may be Pending, whatever its guard tells
abbrev pub most_pendings : ℕ
most_pendings = 4294967295

-- how often a call may be Pending whose guard tells this bound, and whether it may answer Fault: only where the guard may be
-- Pending more often than a task can count
abbrev pub pendings_by : Option ℕ → ℕ
pendings_by bound = option_map_or (min most_pendings) bound most_pendings

abbrev pub MayFault : Option ℕ → Type 0
MayFault bound = IfSome bound (λ most. most_pendings < most)

-- what a reading is that was Pending: as long as it may be so once more it is kept, and else the turn fails
abbrev pub IsWaiting : {R A : Type 0} → R → Taking R → Step A → Taking R → Type 0
IsWaiting reading old Pending new = (0 < old.left) × (new.reading ≡ Some reading) × (new.left + 1 ≡ old.left)
IsWaiting reading old (Done answer) new = ⊥
IsWaiting reading old Fault new = (old.left ≡ 0) × (new ≡ old)
IsWaiting reading old Starved new = ⊥

module _ {V B G E T : Type 0} (D : Guarding V B G E T) where
  -- The reading was begun for what is handed and polled under these Gates, each time Pending, and nothing is changed; or it is
  -- over, since a poll that was not Pending, and what is lent has grown.
  abbrev pub IsUnderWay : {C : Type 0} → Handed V B → Option T → ℕ → Kept C → Kept C → List Gate → ℕ → Type 0
  IsUnderWay handed (Some reading) left before now gates n = D.begun handed.request handed.body gates n reading × (now ≡ before)
      × (n + left ≡ most_pendings) × (n ≡ length gates)
  IsUnderWay handed None left before now gates n = Grows before now × (n < length gates)

  -- the body was read, polled under these Gates, and answered so, under the last of them
  pub record Took {C R X : Type 0} (Made : G → Lent C → X → Lent C → Type 0) (May : X → Lent C → Answer R → Lent C → Type 0)
      (handed : Handed V B) (before : Kept C) (gates : List Gate) (reply : Reply R B) (after : Kept C) : Type 0 where
    pub outcome : Guarded B G E
    pub read : D.may handed.request handed.body gates outcome
    pub earlier : List Gate
    pub last : Gate
    pub polls : gates ≡ earlier ++ last ∷ []
    pub answered : IsAnsweredAs Made May (lent_under last before) outcome reply (lent_under last after)
    pub grows : Grows before after

  -- a handler that reads the body and answers with a value
  abbrev pub taking : {Self C R X : Type 0} → (Self → Seen V → G → Lent C → X → Lent C → Type 0)
      → (X → Seen V → Lent C → Answer R → Lent C → Type 0) → Calling Self (Handed V B) (Kept C) (Reply R B) (Taking T)
  taking Made May = record {
    may = λ handler handed before gates reply after.
        Took (Made handler handed.request) (λ value. May value handed.request) handed before gates reply after;
    begun = λ handler handed task before now gates n. IsUnderWay handed task.reading task.left before now gates n;
    pendings = λ handler handed before. pendings_by (D.pendings handed.request handed.body);
    may_fault = λ handler handed before. MayFault (D.pendings handed.request handed.body);
  }

  under_way_grows : {C : Type 0} (handed : Handed V B) (reading : Option T) (left : ℕ) (before now : Kept C)
      (gates : List Gate) (n : ℕ)
      → IsUnderWay handed reading left before now gates n
      → Grows before now
  under_way_grows handed (Some reading) left before now gates n is = grows_same before now is.1
  under_way_grows handed None left before now gates n is = is.0

  no_forward : {R : Type 0} (whole : B → Option (List ℕ)) (body : B) (answer : Answer R)
      → GivesBack whole body (reply_of answer)
  no_forward whole body (Ok response) = tt
  no_forward whole body (Err status) = tt

  answered_back : {C R X : Type 0} (whole : B → Option (List ℕ)) (Made : G → Lent C → X → Lent C → Type 0)
      (May : X → Lent C → Answer R → Lent C → Type 0) (body : B) (before : Lent C) (outcome : Guarded B G E)
      (reply : Reply R B) (after : Lent C)
      → IsAnsweredAs Made May before outcome reply after
      → GivesBack whole body reply
  answered_back whole Made May body before (Success taken) reply after is = rw is.2 (no_forward whole body is.0)
  answered_back whole Made May body before (Error refused) reply after is = rw is.0 tt
  answered_back whole Made May body before (Forward left) reply after is = rw is.0 tt

  pub taking_keeps : {Self C R X : Type 0} (whole : B → Option (List ℕ))
      (Made : Self → Seen V → G → Lent C → X → Lent C → Type 0) (May : X → Seen V → Lent C → Answer R → Lent C → Type 0)
      → KeepsHandler whole (taking Made May)
  taking_keeps whole Made May = record {
    keeps = record {
      done = λ handler handed before after gates reply is. is.grows;
      begun = λ handler handed task before now gates n begun.
          under_way_grows handed task.reading task.left before now gates n begun;
    };
    forwards = λ handler handed before after gates reply is.
        answered_back whole _ _ handed.body (lent_under is.last before) is.outcome reply (lent_under is.last after) is.answered;
  }
