-- What the routes of the sample reply, and which cookies they add. V is the type of managed values, S that of sources, and R
-- that of streams.
use Rattle.std.specs.Prelude.{ℕ, List, [], ◌∷◌, Option, Some, None, codes}
use Rattle.rkt_cookie.specs.Cookie.{Parts}
use Rattle.rkt_http.specs.declared.outcome.Outcome.TheVariants.{Success, Error, Forward}
use Rattle.rkt_http.specs.declared.status.Status.{Status}
use Rattle.rkt_media.specs.Media.{known_text}
use Rattle.rkt_media.specs.declared.known.Known.TheVariants.{Plain}
use Rattle.rkt_message.specs.Response.{ResponseOf, empty_response}
use Rattle.rkt_request.specs.Guards.{bad_request}
use Rattle.rkt_request.specs.Lent.{Kept}
use Rattle.rkt_response.specs.Flash.{Flashed, flash_cookie}
use Rattle.rkt_response.specs.Responder.{status_alone, typed_bytes, with_header}
use Rattle.rkt_router.specs.Callbacks.{Handed, Reply}
use Rattle.rkt_source.specs.Source.{Meaning}
use Rattle.rkt_sample.specs.Added.{mark_of, with_added}
use Rattle.rkt_sample.specs.Bodies.{SampleBody, string_limit, text_in, whole}
use Rattle.rkt_sample.specs.Greeting.{greeting}
use Rattle.rkt_sample.specs.Told.{with_word}
use Rattle.rkt_sample.specs.declared.route.SampleRoute.{SampleRoute}
use Rattle.rkt_sample.specs.declared.route.SampleRoute.TheVariants as route

abbrev pub teapot : Status
teapot = record { code = 418 }

-- a plain text
abbrev pub plain : {R : Type 0} → List ℕ → ResponseOf R
plain text = typed_bytes (known_text Plain) text

abbrev pub says : {R B : Type 0} → List ℕ → Reply R B
says text = Success (plain text)

-- the request is left to another route, with this code
abbrev pub passes : {R B : Type 0} → ℕ → B → Reply R B
passes code body = Forward (body, record { code = code })

-- a greeting, or else the request is left to another route
abbrev pub greets : {R B : Type 0} → B → Option (List ℕ) → Reply R B
greets body (Some text) = says text
greets body None = passes 404 body

-- the text of a body, or else an error
abbrev pub echoes : {R B : Type 0} → Option (List ℕ) → Reply R B
echoes (Some text) = says text
echoes None = Error bad_request

-- leads to `/page`
abbrev pub to_page : {R : Type 0} → ResponseOf R
to_page = with_header (codes "Location") (codes "/page") (status_alone 303)

-- empty, with a header whose value no response may have
abbrev pub broken : {R : Type 0} → ResponseOf R
broken = with_header (codes "X-Bad") (10 ∷ []) empty_response

-- what each route replies
abbrev pub reply_of : {V S R : Type 0} → (S → Meaning) → SampleRoute → Handed V (SampleBody S) → Reply R (SampleBody S)
reply_of meaning route.Hello handed = greets handed.body (greeting handed.request)
reply_of meaning route.Page handed = says (codes "hello")
reply_of meaning route.HeadPage handed = passes 422 handed.body
reply_of meaning route.HeadGone handed = passes 422 handed.body
reply_of meaning route.PostForm handed = says (codes "post")
reply_of meaning route.DeleteForm handed = says (codes "delete")
reply_of meaning route.Trial handed = passes 404 handed.body
reply_of meaning route.Tried handed = says (codes "tried")
reply_of meaning route.Spoiled handed = Error teapot
reply_of meaning route.Flash handed = Success to_page
reply_of meaning route.Echo handed = echoes (text_in (string_limit handed.request.config.limits) (whole meaning handed.body))
reply_of meaning route.Stop handed = says (codes "stopping")
reply_of meaning route.Broken handed = Success broken

abbrev pub it_worked : Flashed
it_worked = record { kind = codes "success"; message = codes "It worked!" }

-- the cookie that each route adds
abbrev pub added_by : SampleRoute → Option Parts
added_by route.Trial = Some (mark_of (codes "a"))
added_by route.Spoiled = Some (mark_of (codes "a"))
added_by route.Flash = Some (flash_cookie it_worked)
added_by _ = None

-- the word that each route tells, where `/stop` tells this one
abbrev pub told_by : ℕ → SampleRoute → Option ℕ
told_by word route.Stop = Some word
told_by word _ = None

-- what each route leaves of what it may change
abbrev pub left_by : {C : Type 0} → ℕ → SampleRoute → Kept C → Kept C
left_by word route before = with_word (told_by word route) (with_added (added_by route) before)
