-- What handlers and catchers are handed, what they answer, and the laws that they keep.
use Rattle.std.specs.Prelude.{◌≡◌, ℕ, List, Option, ⊤}
use Rattle.rkt_source.specs.declared.source.Gate.{Gate}
use Rattle.rkt_http.specs.declared.outcome.Outcome.{Outcome}
use Rattle.rkt_http.specs.declared.outcome.Outcome.TheVariants.{Success, Error, Forward}
use Rattle.rkt_http.specs.declared.status.Status.{Status}
use Rattle.rkt_request.specs.Lent.{Kept, Grows}
use Rattle.rkt_request.specs.Seen.{Seen}
use Rattle.rkt_message.specs.Response.{ResponseOf}
use Rattle.rkt_router.specs.Calling.{Calling}

-- what a handler is handed; V is the type of managed values, B that of bodies
pub record Handed (V B : Type 0) : Type 0 where
  pub request : Seen V
  pub body : B

-- what a handler answers: a response, a status whose catcher is to answer, or the body, left with a status to another
-- route; R is the type of streams
abbrev pub Reply : Type 0 → Type 0 → Type 0
Reply R B = Outcome (ResponseOf R) Status (B × Status)

-- what a callback for requests may change; C is the type of cached values
pub record RequestAt (V B C : Type 0) : Type 0 where
  pub request : Seen V
  pub body : B
  pub kept : Kept C

-- what a catcher is handed
pub record Refused (V : Type 0) : Type 0 where
  pub status : Status
  pub request : Seen V

-- a Forward gives back a body with the same bytes, where they are told
abbrev pub GivesBack : {R B : Type 0} → (B → Option (List ℕ)) → B → Reply R B → Type 0
GivesBack whole handed (Success response) = ⊤
GivesBack whole handed (Error status) = ⊤
GivesBack whole handed (Forward back) = whole back.0 ≡ whole handed

-- the laws of a callback that may change what it is lent: they hold of what a call leaves, and of what stands while it is
-- under way
pub record Keeps {Self H C A Task : Type 0} (calling : Calling Self H (Kept C) A Task) : Type 0 where
  pub done : (callback : Self) (handed : H) (before after : Kept C) (gates : List Gate) (answer : A)
      → calling.may callback handed before gates answer after
      → Grows before after
  pub begun : (callback : Self) (handed : H) (task : Task) (before now : Kept C) (gates : List Gate) (n : ℕ)
      → calling.begun callback handed task before now gates n
      → Grows before now

-- besides, each Forward of a handler gives the body back
pub record KeepsHandler {Self V B C R Task : Type 0} (whole : B → Option (List ℕ))
    (calling : Calling Self (Handed V B) (Kept C) (Reply R B) Task) : Type 0 where
  pub keeps : Keeps calling
  pub forwards : (handler : Self) (handed : Handed V B) (before after : Kept C) (gates : List Gate) (reply : Reply R B)
      → calling.may handler handed before gates reply after
      → GivesBack whole handed.body reply

-- a call that is done at its first poll, by a task that holds what it needs of what it was handed: it is never Pending and
-- answers no Fault, and nothing is changed before it is done
abbrev pub at_once : {Self H Held A Task : Type 0}
    → (Self → H → Task → Type 0)
    → (Self → H → Held → A → Held → Type 0)
    → Calling Self H Held A Task
at_once Holds may = record {
  may = λ callback handed before gates answer after. may callback handed before answer after;
  begun = λ callback handed task before now gates n. Holds callback handed task × (now ≡ before) × (n ≡ 0);
  pendings = λ callback handed before. 0;
  may_fault = λ callback handed before. ⊥;
}
