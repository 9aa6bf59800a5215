-- Callbacks that an author writes as one change.
use Rattle.std.specs.Prelude.{◌≡◌, Bool, false}
use Rattle.rkt_request.specs.Lent.{Grows}
use Rattle.rkt_request.specs.Seen.{Seen}
use Rattle.rkt_router.specs.Calling.{Calling}
use Rattle.rkt_router.specs.Callbacks.{RequestAt}
use Rattle.rkt_fairing.specs.Callbacks.{KeepsRequest, KeepsResponse, RequestGrows, ResponseAt}

-- A call that is done at its first poll, from what stood before it, and changes what Grown allows. Where that poll found no
-- memory, which the task then says, no later one finds any: so a change is made once.
abbrev pub made_once : {Self H Held A : Type 0} → (Held → Held → Type 0) → (Self → H → Held → A → Held → Type 0)
    → Calling Self H Held A Bool
made_once Grown may = record {
  may = λ callback handed before gates answer after. may callback handed before answer after × Grown before after;
  begun = λ callback handed starved before now gates n. (starved ≡ false → now ≡ before) × Grown before now × (n ≡ 0);
  pendings = λ callback handed before. 0;
  may_fault = λ callback handed before. ⊥;
}

-- one that changes requests, and one that changes responses
abbrev pub changing_request : {F H V B C : Type 0} → (F → RequestAt V B C → RequestAt V B C → Type 0)
    → Calling F H (RequestAt V B C) (Unit {0}) Bool
changing_request may = made_once RequestGrows (λ fairing handed before answer after. may fairing before after)

abbrev pub response_grows : {S C : Type 0} → ResponseAt S C → ResponseAt S C → Type 0
response_grows before after = Grows before.kept after.kept

abbrev pub changing_response : {F V S C : Type 0} → (F → Seen V → ResponseAt S C → ResponseAt S C → Type 0)
    → Calling F (Seen V) (ResponseAt S C) (Unit {0}) Bool
changing_response may = made_once response_grows (λ fairing request before answer after. may fairing request before after)

pub changing_request_keeps : {F H V B C : Type 0} (may : F → RequestAt V B C → RequestAt V B C → Type 0)
    → KeepsRequest (changing_request {H = H} may)
changing_request_keeps may = record {
  done = λ fairing handed before after gates answer is. is.1;
  begun = λ fairing handed task before now gates n begun. begun.1;
}

pub changing_response_keeps : {F V S C : Type 0} (may : F → Seen V → ResponseAt S C → ResponseAt S C → Type 0)
    → KeepsResponse (changing_response may)
changing_response_keeps may = record {
  done = λ fairing handed before after gates answer is. is.1;
  begun = λ fairing handed task before now gates n begun. begun.1;
}
