-- What the handlers of the cases may answer.
use Rattle.std.specs.Prelude.{◌≡◌, ℕ}
use Rattle.rkt_http.specs.declared.outcome.Outcome.TheVariants.{Success}
use Rattle.rkt_message.specs.Response.{ResponseOf}
use Rattle.rkt_request.specs.Lent.{Kept, Grows}
use Rattle.rkt_router.specs.Callbacks.{Handed, Reply}
use Rattle.rkt_router.specs.Calling.{Calling}
use Rattle.cases_serve.specs.declared.app.Saying.{Saying}

-- some response, with what is lent grown by then; it is Pending so often at most as it waits, and the task says how often
-- it was
abbrev pub saying : {V B C R : Type 0} → Calling Saying (Handed V B) (Kept C) (Reply R B) ℕ
saying {R = R} = record {
  may = λ handler handed before gates reply after. (response : ResponseOf R) × (reply ≡ Success response) × Grows before after;
  begun = λ handler handed task before now gates n. (n ≡ task) × Grows before now;
  pendings = λ handler handed before. handler.waits;
  may_fault = λ handler handed before. ⊥;
}
