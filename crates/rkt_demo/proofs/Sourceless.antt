-- No response that the sample is routed to has a source.
use Rattle.std.proofs.Common.{◌≡◌, ◌⊎◌, ⊎_elim, ℕ, List, [], ◌∷◌, Bool, true, false, Option, Some, None, Result, Ok, Err, sym, subst}
use Rattle.std.specs.Prelude.{◌==◌, MatchBool, MatchOption}
use Rattle.rkt_http.specs.declared.method.Method.TheVariants.{Get}
use Rattle.rkt_http.specs.declared.outcome.Outcome.TheVariants.{Success, Error, Forward}
use Rattle.rkt_http.specs.declared.status.Status.{Status}
use Rattle.rkt_message.specs.Response.{ResponseOf}
use Rattle.rkt_request.specs.Guards.{bad_request}
use Rattle.rkt_request.specs.Lent.{Kept}
use Rattle.rkt_request.specs.Seen.{Seen}
use Rattle.rkt_request.specs.declared.bad.Bad.{Bad}
use Rattle.rkt_route.specs.declared.catcher.Catching.{Catching}
use Rattle.rkt_route.specs.declared.catcher.Catching.TheVariants.{Rocket, App}
use Rattle.rkt_router.specs.Callbacks.{Handed, Refused, Reply, RequestAt}
use Rattle.rkt_router.specs.Calls.{GateRule, Made}
use Rattle.rkt_router.specs.Page.{IsDefaultPage}
use Rattle.rkt_router.specs.Tries.{IsNextTry}
use Rattle.rkt_router.specs.declared.turn.Final.{Final}
use Rattle.rkt_router.specs.declared.turn.Final.TheVariants.{Done, FailedTurn, Starved}
use Rattle.rkt_routing.specs.Found.{Found}
use Rattle.rkt_routing.specs.Relations.{Relations, relations}
use Rattle.rkt_dispatch.specs.Finalizing.{settled}
use Rattle.rkt_routing.specs.Routed.{CatcherReplies, Catches, Chooses, HandlesError, Fails, Finds, GivesUp, Goes, Retries, RouteCall, Routes, Settles, InvokesCatcher, TriesRoutes, is_head, mounted, turns_of}
use Rattle.rkt_routing.specs.Table.{SeenTable}
use Rattle.rkt_routing.specs.declared.run.Call.{Call}
use Rattle.rkt_sample.specs.Catching.{answer_of, catch_calling}
use Rattle.rkt_sample.specs.Greeting.{greeting}
use Rattle.rkt_sample.specs.Replies.{echoes, greets, reply_of}
use Rattle.rkt_sample.specs.Routing.{MayBeRefused, Replies, route_calling}
use Rattle.rkt_sample.specs.declared.catcher.SampleCatcher.{SampleCatcher}
use Rattle.rkt_sample.specs.declared.catcher.SampleCatcher.TheVariants as catcher
use Rattle.rkt_sample.specs.declared.route.SampleRoute.{SampleRoute}
use Rattle.rkt_sample.specs.declared.route.SampleRoute.TheVariants as route
use Rattle.rkt_source.specs.Memory.{SourceInMemory, source_meaning}
use Rattle.rkt_demo.proofs.SampleCalls.{Body, HasNoSource, Response, page_at_hand}

either_case : (b : Bool) {P Q Goal : Type 0} → MatchBool b P Q → (P → Goal) → (Q → Goal) → Goal
either_case true p at_true at_false = at_true p
either_case false q at_true at_false = at_false q

-- a fact of what a call came to, where it was done
abbrev OnDone : {A : Type 0} → (A → Type 0) → Final A → Type 0
OnDone P (Done answer) = P answer
OnDone P FailedTurn = Unit {0}
OnDone P Starved = Unit {0}

module _ {B S : Type 0} (good : ResponseOf S → Type 0) where
  -- a reply of a handler, or an answer of a catcher, has no response but a good one
  abbrev GoodReply : Reply S B → Type 0
  GoodReply (Success response) = good response
  GoodReply (Error status) = Unit {0}
  GoodReply (Forward back) = Unit {0}

  goes_good : {Goal : Type 0} (reply : Final (Reply S B)) (on : B → Status → Type 0) (stop : Reply S B → Type 0) → OnDone GoodReply reply → Goes reply on stop → ((body : B) (status : Status) → on body status → Goal)
      → ((outcome : Reply S B) → GoodReply outcome → stop outcome → Goal) → Goal
  goes_good (Done (Success response)) on stop is goes at_on at_stop = at_stop (Success response) is goes
  goes_good (Done (Error status)) on stop is goes at_on at_stop = at_stop (Error status) tt goes
  goes_good (Done (Forward back)) on stop is goes at_on at_stop = at_on back.0 back.1 goes
  goes_good FailedTurn on stop is goes at_on at_stop = at_stop (Error (record { code = 500 })) tt goes
  goes_good Starved on stop is goes at_on at_stop = absurd goes

module _ {S : Type 0} (good : ResponseOf S → Type 0) where
  abbrev GoodAnswer : Result (ResponseOf S) Status → Type 0
  GoodAnswer (Ok response) = good response
  GoodAnswer (Err status) = Unit {0}

  catches_good : {Goal : Type 0} (reply : Final (Result (ResponseOf S) Status)) (caught : ResponseOf S → Type 0) (failed : Type 0) → OnDone GoodAnswer reply → Catches reply caught failed
      → ((response : ResponseOf S) → good response → caught response → Goal) → (failed → Goal) → Goal
  catches_good (Done (Ok response)) caught failed is catches at_caught at_failed = at_caught response is catches
  catches_good (Done (Err status)) caught failed is catches at_caught at_failed = at_failed catches
  catches_good FailedTurn caught failed is catches at_caught at_failed = at_failed catches
  catches_good Starved caught failed is catches at_caught at_failed = absurd catches

module _ {V B C S H HTask K KTask N : Type 0} (good : ResponseOf S → Type 0) (rel : Relations V B C S H HTask K KTask) (table : SeenTable H K N) where
  -- each response of a callback is good, and each default page
  record AllGood : Type 0 where
    handled : (handler : H) (handed : Handed V B) (before after : Kept C) (reply : Final (Reply S B)) → Made rel.handlers rel.gates (turns_of table) handler handed before reply after → OnDone (GoodReply good) reply
    caught : (catcher : K) (refused : Refused V) (before after : Kept C) (answer : Final (Result (ResponseOf S) Status)) → Made rel.catchers rel.gates (turns_of table) catcher refused before answer after → OnDone (GoodAnswer good) answer
    page : (code : ℕ) (request : Seen V) (page : ResponseOf S) → IsDefaultPage code request page → good page

  module _ (all : AllGood) (found : Found V C S) where
    abbrev IsGood : Type 0
    IsGood = good found.response

    finds_good : (response : ResponseOf S) (request : Seen V) (kept : Kept C) (calls : List Call) → good response → Finds found response request kept calls → IsGood
    finds_good response request kept calls is finds = subst (λ (f : Found V C S). good f.response) (sym finds.1) is

    gives_up_good : (request : Seen V) (kept : Kept C) (calls : List Call) → GivesUp request (Finds found) kept calls → IsGood
    gives_up_good request kept calls gives = finds_good gives.0 request kept calls (all.page 500 request gives.0 gives.1) gives.2

    catcher_good : (handler : Catching K) (status : Status) (request : Seen V) (kept after : Kept C) (reply : Final (Result (ResponseOf S) Status)) → CatcherReplies rel table handler status request kept reply after
        → OnDone (GoodAnswer good) reply
    catcher_good Rocket status request kept after reply replies = subst (OnDone (GoodAnswer good)) (sym replies.2) (all.page status.code request replies.0 replies.1)
    catcher_good (App handler) status request kept after reply made = all.caught handler (record { status = status; request = request }) kept after reply made

    chooses_good : (chosen : Option ℕ) (status : Status) (request : Seen V) (kept : Kept C) (calls : List Call) (failed : Kept C → List Call → Type 0) → ((k : Kept C) (cs : List Call) → failed k cs → IsGood)
        → Chooses rel table chosen status request kept calls (Finds found) failed → IsGood
    chooses_good None status request kept calls failed fails chooses = finds_good chooses.0 request kept calls (all.page status.code request chooses.0 chooses.1) chooses.2
    chooses_good (Some position) status request kept [] failed fails chooses = absurd chooses
    chooses_good (Some position) status request kept (call ∷ calls) failed fails chooses =
        catches_good good chooses.0 (λ response. Finds found response request chooses.1 calls) (failed chooses.1 calls)
        (catcher_good chooses.2.catcher.handler status request kept chooses.1 chooses.0 chooses.2.made) chooses.3 (λ response. finds_good response request chooses.1 calls) (fails chooses.1 calls)

    steps_good : (status : Status) (request : Seen V) (kept : Kept C) (calls : List Call) (failed : Kept C → List Call → Type 0) → ((k : Kept C) (cs : List Call) → failed k cs → IsGood)
        → InvokesCatcher rel table status request kept calls (Finds found) failed → IsGood
    steps_good status request kept calls failed fails steps = chooses_good steps.0 status request (settled kept) calls failed fails steps.2

    fails_good : (status : Status) (request : Seen V) (kept : Kept C) (calls : List Call) → Fails rel table status request (Finds found) kept calls → IsGood
    fails_good status request kept calls fails =
        either_case (status.code == 500) fails (gives_up_good request kept calls)
        (steps_good (record { code = 500 }) request kept calls (GivesUp request (Finds found)) (gives_up_good request))

    errors_good : (status : Status) (request : Seen V) (kept : Kept C) (calls : List Call) → HandlesError rel table status request kept calls (Finds found) → IsGood
    errors_good status request kept calls = steps_good status request kept calls (Fails rel table status request (Finds found)) (fails_good status request)

    settles_good : (reply : Reply S B) (request : Seen V) (kept : Kept C) (calls : List Call) → GoodReply good reply → Settles rel table (Finds found) reply request kept calls → IsGood
    settles_good (Success response) request kept calls is settles = finds_good response request kept calls is settles
    settles_good (Error status) request kept calls is settles = errors_good status request kept calls settles
    settles_good (Forward back) request kept calls is settles = errors_good back.1 request kept calls settles

    module _ (then_ : Reply S B → Seen V → Kept C → List Call → Type 0) (over : (reply : Reply S B) (request : Seen V) (kept : Kept C) (calls : List Call) → GoodReply good reply → then_ reply request kept calls → IsGood) where
      next_good : (at : RequestAt V B C) (status : Status) (call : Call) (calls : List Call) (next : Option ℕ)
          → ((behind : Option ℕ) (at : RequestAt V B C) (status : Status) → TriesRoutes rel table behind at status calls then_ → IsGood)
          → MatchOption next (then_ (Forward (at.body, status)) at.request at.kept (call ∷ calls)) (λ position.
          (reply : Final (Reply S B)) × (after : Kept C) × (call_is : RouteCall rel table position at call reply after)
          × Goes reply (λ body status'. TriesRoutes rel table (Some position) (record { request = mounted at.request call_is.route position; body = body; kept = after }) status' calls then_)
          (λ outcome. then_ outcome (mounted at.request call_is.route position) after calls))
          → IsGood
      next_good at status call calls None more goes = over (Forward (at.body, status)) at.request at.kept (call ∷ calls) tt goes
      next_good at status call calls (Some position) more goes =
          goes_good good goes.0
          (λ body status'. TriesRoutes rel table (Some position) (record { request = mounted at.request goes.2.route position; body = body; kept = goes.1 }) status' calls then_)
          (λ outcome. then_ outcome (mounted at.request goes.2.route position) goes.1 calls)
          (all.handled goes.2.route.handler (record { request = mounted at.request goes.2.route position; body = at.body }) at.kept goes.1 goes.0 goes.2.made) goes.3
          (λ body status'. more (Some position) (record { request = mounted at.request goes.2.route position; body = body; kept = goes.1 }) status')
          (λ outcome is. over outcome (mounted at.request goes.2.route position) goes.1 calls is)

      walks_good : (behind : Option ℕ) (at : RequestAt V B C) (status : Status) (calls : List Call) → TriesRoutes rel table behind at status calls then_ → IsGood
      walks_good behind at status [] walks = over (Forward (at.body, status)) at.request at.kept [] tt walks.1
      walks_good behind at status (call ∷ calls) walks = next_good at status call calls walks.0 (λ behind' at' status'. walks_good behind' at' status' calls) walks.2

    retries_good : (reply : Reply S B) (request : Seen V) (kept : Kept C) (calls : List Call) → GoodReply good reply → Retries rel table (Finds found) reply request kept calls → IsGood
    retries_good (Success response) request kept calls is retries = finds_good response request kept calls is retries
    retries_good (Error status) request kept calls is retries = errors_good status request kept calls retries
    retries_good (Forward back) request kept calls is retries =
        either_case (is_head request.method) retries
        (walks_good (Settles rel table (Finds found)) settles_good None (record { request = record request { method = Get }; body = back.0; kept = kept }) (record { code = 404 }) calls)
        (errors_good back.1 request kept calls)

    routes_good : (faults : List Bad) (at : RequestAt V B C) (calls : List Call) → Routes rel table faults at calls (Finds found) → IsGood
    routes_good [] at calls routes = walks_good (Retries rel table (Finds found)) retries_good None at (record { code = 404 }) calls routes
    routes_good (fault ∷ faults) at calls routes = errors_good (record { code = 400 }) at.request at.kept calls routes

greets_good : (body : Body) (text : Option (List ℕ)) → GoodReply HasNoSource (greets body text)
greets_good body (Some text) = tt
greets_good body None = tt

echoes_good : (text : Option (List ℕ)) → GoodReply {B = Body} HasNoSource (echoes text)
echoes_good (Some text) = tt
echoes_good None = tt

reply_good : (route : SampleRoute) (handed : Handed ℕ Body) → GoodReply HasNoSource (reply_of source_meaning route handed)
reply_good route.Hello handed = greets_good handed.body (greeting handed.request)
reply_good route.Page handed = tt
reply_good route.HeadPage handed = tt
reply_good route.HeadGone handed = tt
reply_good route.PostForm handed = tt
reply_good route.DeleteForm handed = tt
reply_good route.Trial handed = tt
reply_good route.Tried handed = tt
reply_good route.Spoiled handed = tt
reply_good route.Flash handed = tt
reply_good route.Echo handed = echoes_good _
reply_good route.Stop handed = tt
reply_good route.Broken handed = tt

answer_good : (catcher : SampleCatcher) (status : Status) → GoodAnswer HasNoSource (answer_of catcher status)
answer_good catcher.NotFound status = tt
answer_good catcher.Default status = tt
answer_good catcher.BadNotFound status = tt
answer_good catcher.BadFailed status = tt

module _ (word : ℕ) (rule : GateRule) (table : SeenTable SampleRoute SampleCatcher (Unit {0})) where
  handled_good : (handler : SampleRoute) (handed : Handed ℕ Body) (before after : Kept ℕ) (reply : Final (Reply SourceInMemory Body)) → Made (route_calling source_meaning word) rule (turns_of table) handler handed before reply after
      → OnDone (GoodReply HasNoSource) reply
  handled_good handler handed before after (Done reply) made = ⊎_elim
      (λ (same : reply ≡ reply_of source_meaning handler handed). subst (GoodReply HasNoSource) (sym same) (reply_good handler handed))
      (λ (errs : (reply ≡ Error bad_request) × MayBeRefused source_meaning handler handed.body made.gates). subst (GoodReply HasNoSource) (sym errs.0) tt)
      made.gives.0
  handled_good handler handed before after FailedTurn made = tt
  handled_good handler handed before after Starved made = tt

  caught_good : (catcher : SampleCatcher) (refused : Refused ℕ) (before after : Kept ℕ) (answer : Final (Result Response Status)) → Made catch_calling rule (turns_of table) catcher refused before answer after
      → OnDone (GoodAnswer HasNoSource) answer
  caught_good catcher refused before after (Done answer) made = subst (GoodAnswer HasNoSource) (sym made.gives.0) (answer_good catcher refused.status)
  caught_good catcher refused before after FailedTurn made = tt
  caught_good catcher refused before after Starved made = tt

  pub routed_at_hand : (found : Found ℕ ℕ SourceInMemory) (faults : List Bad) (at : RequestAt ℕ Body ℕ) (calls : List Call) → Routes (relations (route_calling source_meaning word) catch_calling rule) table faults at calls (Finds found)
      → HasNoSource found.response
  routed_at_hand found faults at calls routes = routes_good HasNoSource (relations (route_calling source_meaning word) catch_calling rule) table
      (record { handled = handled_good; caught = caught_good; page = λ code request page is. subst HasNoSource (sym is.2) (page_at_hand is.0 code) }) found faults at calls routes
