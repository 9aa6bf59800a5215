-- What a page means as a handler and as a catcher: it may answer anything that one may.
use Rattle.std.specs.Prelude.{◌≡◌, ℕ, List, Option, Some, None, Result, ⊤}
use Rattle.rkt_http.specs.declared.status.Status.{Status}
use Rattle.rkt_message.specs.Response.{ResponseOf}
use Rattle.rkt_request.specs.Lent.{Kept, Grows}
use Rattle.rkt_router.specs.Callbacks.{GivesBack, Handed, Refused, Reply}
use Rattle.rkt_router.specs.Calling.{Calling}
use Rattle.rkt_router.specs.declared.step.Step.{Step}
use Rattle.rkt_router.specs.declared.step.Step.TheVariants as step
use Rattle.cases_exchange.specs.declared.page.Page.{Page}
use Rattle.cases_exchange.specs.declared.page.Page.TheVariants.{Does, Marks, Waits}
use Rattle.cases_exchange.specs.declared.page.Catching.{Catching}
use Rattle.cases_exchange.specs.declared.page.Trying.{Trying}

-- how often each call is Pending
abbrev pub pendings : Page → ℕ
pendings (Does act) = 0
pendings (Marks name act) = 0
pendings (Waits turns act) = turns

-- the body that a call has, if any, has the bytes of the one that it was handed
abbrev pub Holds : {B : Type 0} → (B → Option (List ℕ)) → B → Option B → Type 0
Holds whole handed None = ⊤
Holds whole handed (Some body) = whole body ≡ whole handed

-- a last answer: a Forward gives this body back
abbrev pub Ends : {R B : Type 0} → (B → Option (List ℕ)) → B → Step (Reply R B) → Type 0
Ends whole body step.Pending = ⊥
Ends whole body (step.Done reply) = GivesBack whole body reply
Ends whole body step.Fault = ⊤
Ends whole body step.Starved = ⊤

-- it is not Pending
abbrev pub IsLast : {A : Type 0} → Step A → Type 0
IsLast step.Pending = ⊥
IsLast (step.Done answer) = ⊤
IsLast step.Fault = ⊤
IsLast step.Starved = ⊤

abbrev pub trying : {V B C R : Type 0} → (B → Option (List ℕ)) → Calling Page (Handed V B) (Kept C) (Reply R B) (Trying B)
trying whole = record {
  may = λ page handed before gates reply after. Grows before after × GivesBack whole handed.body reply;
  begun = λ page handed task before now gates n. Grows before now × (task.turn ≡ n) × Holds whole handed.body task.body;
  pendings = λ page handed before. pendings page;
  may_fault = λ page handed before. ⊤;
}

abbrev pub catching : {V C R : Type 0} → Calling Page (Refused V) (Kept C) (Result (ResponseOf R) Status) Catching
catching = record {
  may = λ page refused before gates answer after. Grows before after;
  begun = λ page refused task before now gates n. Grows before now × (task.turn ≡ n);
  pendings = λ page refused before. pendings page;
  may_fault = λ page refused before. ⊤;
}
