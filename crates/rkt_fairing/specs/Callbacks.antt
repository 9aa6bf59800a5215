-- What fairings may change of an exchange, and the laws that they keep.
use Rattle.std.specs.Prelude.{◌≡◌, ℕ, List, ⊤}
use Rattle.std.proofs.Common.{ap}
use Rattle.rkt_message.specs.Response.{ResponseOf}
use Rattle.rkt_request.specs.Lent.{Kept, Grows}
use Rattle.rkt_request.specs.LentLaws.{grows_same}
use Rattle.rkt_router.specs.Callbacks.{RequestAt, at_once}
use Rattle.rkt_router.specs.Calling.{Calling}
use Rattle.rkt_source.specs.declared.source.Gate.{Gate}

-- V is the type of managed values, B that of bodies, C that of cached values, S that of streams

-- what a callback for responses may change
pub record ResponseAt (S C : Type 0) : Type 0 where
  pub response : ResponseOf S
  pub kept : Kept C

-- what a request lends stays, and what is lent beside it grows
pub record RequestGrows {V B C : Type 0} (before after : RequestAt V B C) : Type 0 where
  pub config : after.request.config ≡ before.request.config
  pub managed : after.request.managed ≡ before.request.managed
  pub kept : Grows before.kept after.kept

-- the laws of a callback for requests: they hold of what a call leaves, and of what stands while it is under way
pub record KeepsRequest {F H V B C A Task : Type 0} (calling : Calling F H (RequestAt V B C) A Task) : Type 0 where
  pub done : (fairing : F) (handed : H) (before after : RequestAt V B C) (gates : List Gate) (answer : A)
      → calling.may fairing handed before gates answer after
      → RequestGrows before after
  pub begun : (fairing : F) (handed : H) (task : Task) (before now : RequestAt V B C) (gates : List Gate) (n : ℕ)
      → calling.begun fairing handed task before now gates n
      → RequestGrows before now

-- those of a callback for responses
pub record KeepsResponse {F H S C A Task : Type 0} (calling : Calling F H (ResponseAt S C) A Task) : Type 0 where
  pub done : (fairing : F) (handed : H) (before after : ResponseAt S C) (gates : List Gate) (answer : A)
      → calling.may fairing handed before gates answer after
      → Grows before.kept after.kept
  pub begun : (fairing : F) (handed : H) (task : Task) (before now : ResponseAt S C) (gates : List Gate) (n : ℕ)
      → calling.begun fairing handed task before now gates n
      → Grows before.kept now.kept

-- a callback that changes nothing
abbrev pub quiet : {F H Held A Task : Type 0} → Calling F H Held A Task
quiet = at_once (λ fairing handed task. ⊤) (λ fairing handed before answer after. after ≡ before)

pub request_same : {V B C : Type 0} (before after : RequestAt V B C) → after ≡ before → RequestGrows before after
request_same before after same = record {
  config = ap (λ at. at.request.config) same;
  managed = ap (λ at. at.request.managed) same;
  kept = grows_same before.kept after.kept (ap (λ at. at.kept) same);
}

pub quiet_keeps_request : {F H V B C A Task : Type 0}
    → KeepsRequest (quiet {F = F} {H = H} {Held = RequestAt V B C} {A = A} {Task = Task})
quiet_keeps_request = record {
  done = λ fairing handed before after gates answer is. request_same before after is;
  begun = λ fairing handed task before now gates n begun. request_same before now begun.1;
}

pub quiet_keeps_response : {F H S C A Task : Type 0}
    → KeepsResponse (quiet {F = F} {H = H} {Held = ResponseAt S C} {A = A} {Task = Task})
quiet_keeps_response = record {
  done = λ fairing handed before after gates answer is. grows_same before.kept after.kept (ap (λ at. at.kept) is);
  begun = λ fairing handed task before now gates n begun. grows_same before.kept now.kept (ap (λ at. at.kept) begun.1);
}
