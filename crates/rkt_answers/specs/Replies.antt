-- What a handler answers that has a responder answer for it.
use Rattle.std.specs.Prelude.{◌≡◌, Ok, Err}
use Rattle.rkt_http.specs.declared.outcome.Outcome.TheVariants.{Success, Error}
use Rattle.rkt_response.specs.Responder.{Answer}
use Rattle.rkt_router.specs.Callbacks.{Reply}

-- the answer of a responder as that of a handler
abbrev pub reply_of : {R B : Type 0} → Answer R → Reply R B
reply_of (Ok response) = Success response
reply_of (Err status) = Error status

-- a handler's answer is that of a responder which may answer so
abbrev pub MadeBy : {R B : Type 0} → (Answer R → Type 0) → Reply R B → Type 0
MadeBy {R} May reply = (answer : Answer R) × May answer × (reply ≡ reply_of answer)
