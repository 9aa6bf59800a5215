-- A catcher that answers default pages.
use Rattle.std.specs.Prelude.{◌≡◌, Ok, Result}
use Rattle.rkt_http.specs.declared.status.Status.{Status}
use Rattle.rkt_message.specs.Response.{ResponseOf}
use Rattle.rkt_request.specs.Lent.{Kept}
use Rattle.rkt_request.specs.LentLaws.{grows_same}
use Rattle.rkt_router.specs.CallbackLaws.{at_once_keeps}
use Rattle.rkt_router.specs.Callbacks.{Keeps, Refused, at_once}
use Rattle.rkt_router.specs.Calling.{Calling}
use Rattle.rkt_router.specs.Page.{IsDefaultPage}
use Rattle.rkt_answers.specs.declared.default_catcher.DefaultCatcher.{DefaultCatcher}

-- the default page of the status, with nothing changed
abbrev pub default_calling : {V C R : Type 0}
    → Calling DefaultCatcher (Refused V) (Kept C) (Result (ResponseOf R) Status) Status
default_calling {R = R} =
    at_once (λ catcher refused task. task ≡ refused.status)
    (λ catcher refused before answer after.
    (page : ResponseOf R) × IsDefaultPage refused.status.code refused.request page × (answer ≡ Ok page) × (after ≡ before))

pub default_keeps : {V C R : Type 0} → Keeps (default_calling {V = V} {C = C} {R = R})
default_keeps = at_once_keeps _ _ (λ catcher refused before after answer is. grows_same before after is.3)
