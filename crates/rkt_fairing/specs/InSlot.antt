-- How what is in a slot is called: a shield as it is called, and a fairing of the application as its own callback says.
use Rattle.std.specs.Prelude.{◌≡◌, ℕ, List, Option, None, Some, IsSomeAnd, ⊤}
use Rattle.rkt_http.specs.Headers.{Field}
use Rattle.rkt_message.specs.Response.{ResponseOf, with_headers}
use Rattle.rkt_request.specs.Lent.{Grows}
use Rattle.rkt_request.specs.LentLaws.{grows_same}
use Rattle.rkt_request.specs.Seen.{Seen}
use Rattle.rkt_router.specs.Callbacks.{RequestAt, at_once}
use Rattle.rkt_router.specs.Calling.{Calling}
use Rattle.rkt_shield.specs.Shield.{applied}
use Rattle.rkt_source.specs.declared.source.Gate.{Gate}
use Rattle.std.proofs.Common.{ap}
use Rattle.rkt_fairing.specs.Callbacks.{KeepsRequest, KeepsResponse, RequestGrows, ResponseAt, quiet, request_same}
use Rattle.rkt_fairing.specs.declared.slot.Slot.{Slot}
use Rattle.rkt_fairing.specs.declared.slot.Slot.TheVariants.{Shield, App}

-- F is the type of the application's fairings, V that of managed values, B that of bodies, C that of cached values, S that of
-- streams; Task is that of the fairings' tasks, and a shield's task is None

-- what is said of a shield, by its headers, or of a fairing
abbrev pub of_slot {ℓ} : {F : Type 0} {X : Type ℓ} → (List Field → X) → (F → X) → Slot F → X
of_slot shield app (Shield headers) = shield headers
of_slot shield app (App fairing) = app fairing

abbrev pub in_slot : {F H Held A Task : Type 0}
    → Calling (List Field) H Held A (Unit {0})
    → Calling F H Held A Task
    → Calling (Slot F) H Held A (Option Task)
in_slot shield app = record {
  may = of_slot shield.may app.may;
  begun = λ slot handed task before now gates n.
      of_slot (λ headers. (task ≡ None) × shield.begun headers handed tt before now gates n)
      (λ fairing. IsSomeAnd task (λ begun. app.begun fairing handed begun before now gates n)) slot;
  pendings = of_slot shield.pendings app.pendings;
  may_fault = of_slot shield.may_fault app.may_fault;
}

-- for a request: a shield changes nothing
abbrev pub slot_request : {F V B C Task : Type 0}
    → Calling F (Unit {0}) (RequestAt V B C) (Unit {0}) Task
    → Calling (Slot F) (Unit {0}) (RequestAt V B C) (Unit {0}) (Option Task)
slot_request = in_slot quiet

-- a response with those headers of a shield whose names were not there
abbrev pub shielded : {S : Type 0} → List Field → ResponseOf S → ResponseOf S
shielded headers response = with_headers response (applied response.headers headers)

-- what a shield does to a response: it is done at once
abbrev pub shielding : {V S C A Task : Type 0} → Calling (List Field) (Seen V) (ResponseAt S C) A Task
shielding =
    at_once (λ headers request task. ⊤)
    (λ headers request before answer after. after ≡ record before { response = shielded headers before.response })

-- for a response: a shield adds its headers
abbrev pub slot_response : {F V S C Task : Type 0}
    → Calling F (Seen V) (ResponseAt S C) (Unit {0}) Task
    → Calling (Slot F) (Seen V) (ResponseAt S C) (Unit {0}) (Option Task)
slot_response = in_slot shielding

-- that the laws are kept
module _ {F V B C Task : Type 0} {calling : Calling F (Unit {0}) (RequestAt V B C) (Unit {0}) Task}
    (keeps : KeepsRequest calling) where
  done_request : (slot : Slot F) (before after : RequestAt V B C) (gates : List Gate) (answer : Unit {0})
      → (slot_request calling).may slot tt before gates answer after
      → RequestGrows before after
  done_request (Shield headers) before after gates answer is = request_same before after is
  done_request (App fairing) before after gates answer is = keeps.done fairing tt before after gates answer is

  begun_request : (slot : Slot F) (task : Option Task) (before now : RequestAt V B C) (gates : List Gate) (n : ℕ)
      → (slot_request calling).begun slot tt task before now gates n
      → RequestGrows before now
  begun_request (Shield headers) task before now gates n begun = request_same before now begun.1.1
  begun_request (App fairing) (Some task) before now gates n begun = keeps.begun fairing tt task before now gates n begun
  begun_request (App fairing) None before now gates n begun = absurd begun

  pub slot_request_keeps : KeepsRequest (slot_request calling)
  slot_request_keeps = record {
    done = λ slot handed. done_request slot;
    begun = λ slot handed. begun_request slot;
  }

module _ {F V S C Task : Type 0} {calling : Calling F (Seen V) (ResponseAt S C) (Unit {0}) Task}
    (keeps : KeepsResponse calling) where
  done_response : (slot : Slot F) (request : Seen V) (before after : ResponseAt S C) (gates : List Gate) (answer : Unit {0})
      → (slot_response calling).may slot request before gates answer after
      → Grows before.kept after.kept
  done_response (Shield headers) request before after gates answer is =
      grows_same before.kept after.kept (ap (λ at. at.kept) is)
  done_response (App fairing) request before after gates answer is = keeps.done fairing request before after gates answer is

  begun_response : (slot : Slot F) (request : Seen V) (task : Option Task) (before now : ResponseAt S C)
      (gates : List Gate) (n : ℕ)
      → (slot_response calling).begun slot request task before now gates n
      → Grows before.kept now.kept
  begun_response (Shield headers) request task before now gates n begun =
      grows_same before.kept now.kept (ap (λ at. at.kept) begun.1.1)
  begun_response (App fairing) request (Some task) before now gates n begun =
      keeps.begun fairing request task before now gates n begun
  begun_response (App fairing) request None before now gates n begun = absurd begun

  pub slot_response_keeps : KeepsResponse (slot_response calling)
  slot_response_keeps = record { done = done_response; begun = begun_response }
