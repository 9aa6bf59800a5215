-- What a fairing means: it may change what one may.
use Rattle.std.specs.Prelude.{◌≡◌, ℕ, ⊤}
use Rattle.rkt_request.specs.Seen.{Seen}
use Rattle.rkt_router.specs.Calling.{Calling}
use Rattle.rkt_router.specs.Callbacks.{RequestAt}
use Rattle.rkt_fairing.specs.Callbacks.{KeepsRequest, KeepsResponse, RequestGrows, ResponseAt}
use Rattle.rkt_adhoc.specs.Changes.{response_grows}
use Rattle.cases_exchange.specs.declared.changer.Changer.{Changer}

-- a call that is Pending as often as its fairing waits: Grown says what it leaves, and what stands while it is under way
abbrev pub waiting : {H Held A : Type 0} → (Held → Held → Type 0) → Calling Changer H Held A ℕ
waiting Grown = record {
  may = λ changer handed before gates answer after. Grown before after;
  begun = λ changer handed task before now gates n. Grown before now × (task ≡ n);
  pendings = λ changer handed before. changer.waits;
  may_fault = λ changer handed before. ⊤;
}

abbrev pub asking : {H V B C A : Type 0} → Calling Changer H (RequestAt V B C) A ℕ
asking = waiting RequestGrows

abbrev pub responding : {V S C A : Type 0} → Calling Changer (Seen V) (ResponseAt S C) A ℕ
responding = waiting response_grows

pub asking_keeps : {H V B C A : Type 0} → KeepsRequest (asking {H = H} {V = V} {B = B} {C = C} {A = A})
asking_keeps = record {
  done = λ changer handed before after gates answer is. is;
  begun = λ changer handed task before now gates n begun. begun.0;
}

pub responding_keeps : {V S C A : Type 0} → KeepsResponse (responding {V = V} {S = S} {C = C} {A = A})
responding_keeps = record {
  done = λ changer handed before after gates answer is. is;
  begun = λ changer handed task before now gates n begun. begun.0;
}
