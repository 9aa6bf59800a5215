-- What the catchers of the sample answer, and what they leave.
use Rattle.std.specs.Prelude.{◌≡◌, ℕ, List, Ok, Err, Option, Some, None, Result, codes}
use Rattle.rkt_cookie.specs.Cookie.{Parts}
use Rattle.rkt_http.specs.declared.status.Status.{Status}
use Rattle.rkt_message.specs.Response.{ResponseOf}
use Rattle.rkt_request.specs.Lent.{Kept}
use Rattle.rkt_response.specs.Responder.{Answer, with_status}
use Rattle.rkt_router.specs.Callbacks.{Refused, at_once}
use Rattle.rkt_router.specs.Calling.{Calling}
use Rattle.rkt_sample.specs.Added.{mark_of, with_added}
use Rattle.rkt_sample.specs.Replies.{plain, teapot}
use Rattle.rkt_sample.specs.declared.catcher.SampleCatcher.{SampleCatcher}
use Rattle.rkt_sample.specs.declared.catcher.SampleCatcher.TheVariants as catcher

-- a text, with the status that was called for
abbrev pub tells : {R : Type 0} → Status → List ℕ → Answer R
tells status text = Ok (with_status status.code (plain text))

-- what each catcher answers for a status
abbrev pub answer_of : {R : Type 0} → SampleCatcher → Status → Answer R
answer_of catcher.NotFound status = tells status (codes "404 at /a")
answer_of catcher.Default status = tells status (codes "default at /a/b")
answer_of catcher.BadNotFound status = Err teapot
answer_of catcher.BadFailed status = Err teapot

-- the cookie that each catcher adds
abbrev pub added_by : SampleCatcher → Option Parts
added_by catcher.BadFailed = Some (mark_of (codes "k"))
added_by _ = None

abbrev pub catch_calling : {V C R : Type 0} → Calling SampleCatcher (Refused V) (Kept C) (Result (ResponseOf R) Status) Status
catch_calling =
    at_once (λ catcher refused task. task ≡ refused.status)
    (λ catcher refused before answer after.
    (answer ≡ answer_of catcher refused.status) × (after ≡ with_added (added_by catcher) before))
