-- A request is routed to one thing where each call of a route and of a catcher comes to one, whatever the Gates and the words that
-- are told.
use Rattle.std.proofs.Common.{◌≡◌, ℕ, List, [], ◌∷◌, Bool, true, false, Option, Some, None, Result, Ok, Err, refl, ◌∙◌, sym, subst}
use Rattle.std.specs.Prelude.{◌==◌, MatchBool, MatchOption}
use Rattle.std.proofs.lemmas.Option.{same_Some}
use Rattle.rkt_http.specs.declared.method.Method.TheVariants.{Get}
use Rattle.rkt_http.specs.declared.outcome.Outcome.TheVariants.{Success, Error, Forward}
use Rattle.rkt_http.specs.declared.status.Status.{Status}
use Rattle.rkt_message.specs.Response.{ResponseOf}
use Rattle.rkt_request.specs.Lent.{Kept}
use Rattle.rkt_request.specs.Seen.{Seen}
use Rattle.rkt_request.specs.declared.bad.Bad.{Bad}
use Rattle.rkt_route.specs.declared.catcher.Catcher.{Catcher}
use Rattle.rkt_route.specs.declared.catcher.Catching.{Catching}
use Rattle.rkt_route.specs.declared.catcher.Catching.TheVariants.{Rocket, App}
use Rattle.rkt_route.specs.declared.route.Route.{Route}
use Rattle.rkt_router.specs.Callbacks.{Refused, Reply, RequestAt}
use Rattle.rkt_router.specs.Calls.{Made}
use Rattle.rkt_router.specs.Page.{IsDefaultPage}
use Rattle.rkt_router.specs.Tries.{IsNextTry}
use Rattle.rkt_router.specs.declared.turn.Final.{Final}
use Rattle.rkt_router.specs.declared.turn.Final.TheVariants.{Done}
use Rattle.rkt_routing.specs.Found.{Found}
use Rattle.rkt_routing.specs.Relations.{Relations}
use Rattle.rkt_dispatch.specs.Finalizing.{settled}
use Rattle.rkt_routing.specs.Routed.{CatcherReplies, Catches, Chooses, HandlesError, Fails, Finds, GivesUp, Goes, Retries, RouteCall, Routes, Settles, InvokesCatcher, TriesRoutes, is_head, mounted, turns_of}
use Rattle.rkt_routing.specs.Table.{SeenTable}
use Rattle.rkt_routing.specs.declared.run.Call.{Call}
use Rattle.rkt_demo.proofs.Choices.{one_chosen, one_next}

-- what may follow a walk
abbrev Next : Type 0 → Type 0 → Type 0 → Type 0 → Type 1
Next V B C S = Reply S B → Seen V → Kept C → List Call → Type 0

both_ways : (b : Bool) {P Q P' Q' Goal : Type 0} → MatchBool b P Q → MatchBool b P' Q' → (P → P' → Goal) → (Q → Q' → Goal) → Goal
both_ways true p p' at_true at_false = at_true p p'
both_ways false q q' at_true at_false = at_false q q'

-- which bodies are alike, which of what is lent beside a request, and which responses are good
pub record Likeness (B C S : Type 0) : Type 1 where
  pub bodies : B → B → Type 0
  pub kept : Kept C → Kept C → Type 0
  pub good : ResponseOf S → Type 0

module _ {B C S : Type 0} (like : Likeness B C S) where
  -- one reply of a handler is like another
  abbrev pub SameReply : Reply S B → Reply S B → Type 0
  SameReply (Success response) other = (other ≡ Success response) × like.good response
  SameReply (Error status) other = other ≡ Error status
  SameReply (Forward back) other = (body : B) × like.bodies back.0 body × (other ≡ Forward (body, back.1))

  -- one answer of a catcher is like another
  abbrev pub SameAnswer : Result (ResponseOf S) Status → Result (ResponseOf S) Status → Type 0
  SameAnswer (Ok response) other = (other ≡ Ok response) × like.good response
  SameAnswer (Err status) other = other ≡ Err status

  -- two whole calls come to one thing
  pub record CallsAlike {A : Type 0} (Same : A → A → Type 0) (reply reply' : Final A) (after after' : Kept C) : Type 0 where
    pub answer : A
    pub other : A
    pub is : reply ≡ Done answer
    pub other_is : reply' ≡ Done other
    pub same : Same answer other
    pub kept : like.kept after after'

  -- two things that were found are alike
  pub record SameFound {V : Type 0} (found found' : Found V C S) : Type 0 where
    pub response : found'.response ≡ found.response
    pub good : like.good found.response
    pub request : found'.request ≡ found.request
    pub kept : like.kept found.kept found'.kept

  -- where replies that are alike lead
  goes_on : {Goal : Type 0} (answer other : Reply S B) (on on' : B → Status → Type 0) (stop stop' : Reply S B → Type 0) → SameReply answer other → Goes (Done answer) on stop → Goes (Done other) on' stop'
      → ((body body' : B) (status : Status) → like.bodies body body' → on body status → on' body' status → Goal)
      → ((outcome outcome' : Reply S B) → SameReply outcome outcome' → stop outcome → stop' outcome' → Goal) → Goal
  goes_on (Success response) other on on' stop stop' same goes goes' at_on at_stop =
      at_stop (Success response) (Success response) (refl, same.1) goes (subst (λ (r : Reply S B). Goes (Done r) on' stop') same.0 goes')
  goes_on (Error status) other on on' stop stop' same goes goes' at_on at_stop =
      at_stop (Error status) (Error status) refl goes (subst (λ (r : Reply S B). Goes (Done r) on' stop') same goes')
  goes_on (Forward back) other on on' stop stop' same goes goes' at_on at_stop =
      at_on back.0 same.0 back.1 same.1 goes (subst (λ (r : Reply S B). Goes (Done r) on' stop') same.2 goes')

  catches_on : {Goal : Type 0} (answer other : Result (ResponseOf S) Status) (caught caught' : ResponseOf S → Type 0) (failed failed' : Type 0) → SameAnswer answer other
      → Catches (Done answer) caught failed → Catches (Done other) caught' failed' → ((response : ResponseOf S) → like.good response → caught response → caught' response → Goal) → (failed → failed' → Goal) → Goal
  catches_on (Ok response) other caught caught' failed failed' same catches catches' at_caught at_failed =
      at_caught response same.1 catches (subst (λ (a : Result (ResponseOf S) Status). Catches (Done a) caught' failed') same.0 catches')
  catches_on (Err status) other caught caught' failed failed' same catches catches' at_caught at_failed =
      at_failed catches (subst (λ (a : Result (ResponseOf S) Status). Catches (Done a) caught' failed') same catches')

module _ {V B C S H HTask K KTask N : Type 0} (like : Likeness B C S) (rel rel' : Relations V B C S H HTask K KTask) (table : SeenTable H K N) where
  -- what each call has to keep to, that routing may be one
  pub record CallsOnce : Type 0 where
    pub handled : (handler : H) (request : Seen V) (body body' : B) (before before' after after' : Kept C) (reply reply' : Final (Reply S B)) → like.bodies body body' → like.kept before before'
        → Made rel.handlers rel.gates (turns_of table) handler (record { request = request; body = body }) before reply after
        → Made rel'.handlers rel'.gates (turns_of table) handler (record { request = request; body = body' }) before' reply' after' → CallsAlike like (SameReply like) reply reply' after after'
    pub caught : (catcher : K) (refused : Refused V) (before before' after after' : Kept C) (reply reply' : Final (Result (ResponseOf S) Status)) → like.kept before before'
        → Made rel.catchers rel.gates (turns_of table) catcher refused before reply after → Made rel'.catchers rel'.gates (turns_of table) catcher refused before' reply' after' → CallsAlike like (SameAnswer like) reply reply' after after'
    pub page : (code : ℕ) (request : Seen V) (page page' : ResponseOf S) → IsDefaultPage code request page → IsDefaultPage code request page' → page' ≡ page
    pub page_good : (code : ℕ) (request : Seen V) (page : ResponseOf S) → IsDefaultPage code request page → like.good page
    pub settles : (kept kept' : Kept C) → like.kept kept kept' → like.kept (settled kept) (settled kept')

  module _ (once : CallsOnce) where
    -- what a walk leads to from one position, or where none is left
    abbrev Going : Relations V B C S H HTask K KTask → RequestAt V B C → Status → List Call → Next V B C S → Option ℕ → Type 0
    Going of_ at status calls then_ None = then_ (Forward (at.body, status)) at.request at.kept calls
    Going of_ at status calls then_ (Some position) =
        (call : Call) × (rest : List Call) × (reply : Final (Reply S B)) × (after : Kept C) × (call_is : RouteCall of_ table position at call reply after)
        × Goes reply
        (λ body status'. TriesRoutes of_ table (Some position) (record { request = mounted at.request call_is.route position; body = body; kept = after }) status' rest then_)
        (λ outcome. then_ outcome (mounted at.request call_is.route position) after rest)

    abbrev Step : Relations V B C S H HTask K KTask → Option ℕ → RequestAt V B C → Status → List Call → Next V B C S → Type 0
    Step of_ behind at status calls then_ = (next : Option ℕ) × IsNextTry table.router.routes at.request behind next × Going of_ at status calls then_ next

    step_of : (of_ : Relations V B C S H HTask K KTask) (behind : Option ℕ) (at : RequestAt V B C) (status : Status) (calls : List Call) (then_ : Next V B C S) → TriesRoutes of_ table behind at status calls then_ → Step of_ behind at status calls then_
    step_of of_ behind at status [] then_ walks = (None, walks.0, walks.1)
    step_of of_ behind at status (call ∷ calls) then_ walks = by_next walks.0 walks.1 walks.2
      where
        by_next : (next : Option ℕ) → IsNextTry table.router.routes at.request behind next
            → MatchOption next (then_ (Forward (at.body, status)) at.request at.kept (call ∷ calls)) (λ position.
            (reply : Final (Reply S B)) × (after : Kept C) × (call_is : RouteCall of_ table position at call reply after)
            × Goes reply
            (λ body status'. TriesRoutes of_ table (Some position) (record { request = mounted at.request call_is.route position; body = body; kept = after }) status' calls then_)
            (λ outcome. then_ outcome (mounted at.request call_is.route position) after calls))
            → Step of_ behind at status (call ∷ calls) then_
        by_next None is goes = (None, is, goes)
        by_next (Some position) is goes = (Some position, is, (call, calls, goes.0, goes.1, goes.2, goes.3))

    abbrev at_ : Seen V → B → Kept C → RequestAt V B C
    at_ request body kept = record { request = request; body = body; kept = kept }

    module _ {Goal : Type 0} (then_ then_' : Next V B C S)
        (over : (reply reply' : Reply S B) (request : Seen V) (kept kept' : Kept C) (calls calls' : List Call) → SameReply like reply reply' → like.kept kept kept' → then_ reply request kept calls → then_' reply' request kept' calls' → Goal) where
      -- two walks behind one position
      abbrev More : List Call → Type 0
      More calls = (behind : Option ℕ) (request : Seen V) (body body' : B) (kept kept' : Kept C) (status : Status) (calls' : List Call) → like.bodies body body' → like.kept kept kept'
          → TriesRoutes rel table behind (at_ request body kept) status calls then_ → TriesRoutes rel' table behind (at_ request body' kept') status calls' then_' → Goal

      -- where both were led on by one route
      routes_on : (position : ℕ) (request : Seen V) (body body' : B) (kept kept' after after' : Kept C) (call call' : Call) (rest rest' : List Call) (reply reply' : Final (Reply S B)) → like.bodies body body' → like.kept kept kept'
          → (call_is : RouteCall rel table position (at_ request body kept) call reply after) (call_is' : RouteCall rel' table position (at_ request body' kept') call' reply' after')
          → Goes reply
          (λ b s. TriesRoutes rel table (Some position) (at_ (mounted request call_is.route position) b after) s rest then_)
          (λ outcome. then_ outcome (mounted request call_is.route position) after rest)
          → Goes reply'
          (λ b s. TriesRoutes rel' table (Some position) (at_ (mounted request call_is'.route position) b after') s rest' then_')
          (λ outcome. then_' outcome (mounted request call_is'.route position) after' rest')
          → More rest → Goal
      routes_on position request body body' kept kept' after after' call call' rest rest' reply reply' bodies kepts call_is call_is' goes goes' more =
          let same : call_is'.route ≡ call_is.route = same_Some call_is'.route call_is.route (sym call_is'.found ∙ call_is.found) in
          let route : Route H N = call_is.route in
          let made' : Made rel'.handlers rel'.gates (turns_of table) route.handler (record { request = mounted request route position; body = body' }) kept' reply' after' =
          subst (λ (r : Route H N). Made rel'.handlers rel'.gates (turns_of table) r.handler (record { request = mounted request r position; body = body' }) kept' reply' after') same call_is'.made in
          let alike = once.handled route.handler (mounted request route position) body body' kept kept' after after' reply reply' bodies kepts call_is.made made' in
          let on : B → Status → Type 0 = λ b s. TriesRoutes rel table (Some position) (at_ (mounted request route position) b after) s rest then_ in
          let on' : B → Status → Type 0 = λ b s. TriesRoutes rel' table (Some position) (at_ (mounted request route position) b after') s rest' then_' in
          let stop : Reply S B → Type 0 = λ outcome. then_ outcome (mounted request route position) after rest in
          let stop' : Reply S B → Type 0 = λ outcome. then_' outcome (mounted request route position) after' rest' in
          let led' : Goes reply' on' stop' =
          subst (λ (r : Route H N). Goes reply' (λ b s. TriesRoutes rel' table (Some position) (at_ (mounted request r position) b after') s rest' then_') (λ outcome. then_' outcome (mounted request r position) after' rest')) same goes' in
          goes_on like alike.answer alike.other on on' stop stop' alike.same
          (subst (λ (r : Final (Reply S B)). Goes r on stop) alike.is goes) (subst (λ (r : Final (Reply S B)). Goes r on' stop') alike.other_is led')
          (λ b b' s like_bodies. more (Some position) (mounted request route position) b b' after after' s rest' like_bodies alike.kept)
          (λ outcome outcome' like_outcomes. over outcome outcome' (mounted request route position) after after' rest rest' like_outcomes alike.kept)

      step_on : (behind : Option ℕ) (request : Seen V) (body body' : B) (kept kept' : Kept C) (status : Status) (calls calls' : List Call) → like.bodies body body' → like.kept kept kept'
          → (next next' : Option ℕ) → IsNextTry table.router.routes request behind next → IsNextTry table.router.routes request behind next'
          → Going rel (at_ request body kept) status calls then_ next → Going rel' (at_ request body' kept') status calls' then_' next'
          → ((position : ℕ) → next ≡ Some position → Going rel (at_ request body kept) status calls then_ (Some position) → Going rel' (at_ request body' kept') status calls' then_' (Some position) → Goal) → Goal
      step_on behind request body body' kept kept' status calls calls' bodies kepts None None is is' goes goes' more =
          over (Forward (body, status)) (Forward (body', status)) request kept kept' calls calls' (body', bodies, refl) kepts goes goes'
      step_on behind request body body' kept kept' status calls calls' bodies kepts None (Some p) is is' goes goes' more = absurd (is p is'.0 is'.1)
      step_on behind request body body' kept kept' status calls calls' bodies kepts (Some p) None is is' goes goes' more = absurd (is' p is.0 is.1)
      step_on behind request body body' kept kept' status calls calls' bodies kepts (Some p) (Some q) is is' goes goes' more =
          let same : q ≡ p = one_next table.router.routes request behind q p is' is in
          more p refl goes (subst (λ (n : ℕ). Going rel' (at_ request body' kept') status calls' then_' (Some n)) same goes')

      walks_on : (calls : List Call) → More calls
      walks_on [] behind request body body' kept kept' status calls' bodies kepts walks walks' =
          let step' = step_of rel' behind (at_ request body' kept') status calls' then_' walks' in
          step_on behind request body body' kept kept' status [] calls' bodies kepts None step'.0 walks.0 step'.1 walks.1 step'.2 (λ position some. cc some)
      walks_on (call ∷ rest) behind request body body' kept kept' status calls' bodies kepts walks walks' =
          by_next (walks_on rest) walks.0 walks.1 walks.2
        where
          by_next : More rest → (next : Option ℕ) → IsNextTry table.router.routes request behind next
              → MatchOption next (then_ (Forward (body, status)) request kept (call ∷ rest)) (λ position.
              (reply : Final (Reply S B)) × (after : Kept C) × (call_is : RouteCall rel table position (at_ request body kept) call reply after)
              × Goes reply
              (λ b s. TriesRoutes rel table (Some position) (at_ (mounted request call_is.route position) b after) s rest then_)
              (λ outcome. then_ outcome (mounted request call_is.route position) after rest))
              → Goal
          by_next more None is goes =
              let step' = step_of rel' behind (at_ request body' kept') status calls' then_' walks' in
              step_on behind request body body' kept kept' status (call ∷ rest) calls' bodies kepts None step'.0 is step'.1 goes step'.2 (λ position some. cc some)
          by_next more (Some position) is goes =
              let step' = step_of rel' behind (at_ request body' kept') status calls' then_' walks' in
              by_other step'.0 step'.1 step'.2
            where
              by_other : (next' : Option ℕ) → IsNextTry table.router.routes request behind next' → Going rel' (at_ request body' kept') status calls' then_' next' → Goal
              by_other None is' goes' = absurd (is' position is.0 is.1)
              by_other (Some q) is' goes' =
                  let same : q ≡ position = one_next table.router.routes request behind q position is' is in
                  let there = subst (λ (n : ℕ). Going rel' (at_ request body' kept') status calls' then_' (Some n)) same goes' in
                  routes_on position request body body' kept kept' goes.1 there.3 call there.0 rest there.1 goes.0 there.2 bodies kepts goes.2 there.4 goes.3 there.5 more

    module _ (found found' : Found V C S) where
      finds_once : (response : ResponseOf S) (request : Seen V) (kept kept' : Kept C) (calls calls' : List Call) → like.good response → like.kept kept kept' → Finds found response request kept calls
          → Finds found' response request kept' calls' → SameFound like found found'
      finds_once response request kept kept' calls calls' good kepts finds finds' =
          subst (λ (f : Found V C S). SameFound like f found') (sym finds.1)
          (subst (λ (f : Found V C S). SameFound like (record { response = response; request = request; kept = kept }) f) (sym finds'.1)
          (record { response = refl; good = good; request = refl; kept = kepts }))

      paged_once : (code : ℕ) (request : Seen V) (kept kept' : Kept C) (calls calls' : List Call) → like.kept kept kept' → (page page' : ResponseOf S) → IsDefaultPage code request page → IsDefaultPage code request page'
          → Finds found page request kept calls → Finds found' page' request kept' calls' → SameFound like found found'
      paged_once code request kept kept' calls calls' kepts page page' is is' finds finds' =
          finds_once page request kept kept' calls calls' (once.page_good code request page is) kepts finds
          (subst (λ (p : ResponseOf S). Finds found' p request kept' calls') (once.page code request page page' is is') finds')

      gives_up_once : (request : Seen V) (kept kept' : Kept C) (calls calls' : List Call) → like.kept kept kept' → GivesUp request (Finds found) kept calls → GivesUp request (Finds found') kept' calls' → SameFound like found found'
      gives_up_once request kept kept' calls calls' kepts gives gives' = paged_once 500 request kept kept' calls calls' kepts gives.0 gives'.0 gives.1 gives'.1 gives.2 gives'.2

      replies_once : (handler : Catching K) (status : Status) (request : Seen V) (kept kept' after after' : Kept C) (reply reply' : Final (Result (ResponseOf S) Status)) → like.kept kept kept'
          → CatcherReplies rel table handler status request kept reply after → CatcherReplies rel' table handler status request kept' reply' after' → CallsAlike like (SameAnswer like) reply reply' after after'
      replies_once Rocket status request kept kept' after after' reply reply' kepts replies replies' =
          let page = once.page status.code request replies.0 replies'.0 replies.1 replies'.1 in
          record {
            answer = Ok replies.0;
            other = Ok replies'.0;
            is = replies.2;
            other_is = replies'.2;
            same = (rw page refl, once.page_good status.code request replies.0 replies.1);
            kept = rw (replies.3, replies'.3) kepts;
          }
      replies_once (App handler) status request kept kept' after after' reply reply' kepts made made' =
          once.caught handler (record { status = status; request = request }) kept kept' after after' reply reply' kepts made made'

      -- what follows where a step failed
      abbrev Failing : Type 1
      Failing = Kept C → List Call → Type 0

      abbrev FailsOnce : Failing → Failing → Type 0
      FailsOnce failed failed' = (kept kept' : Kept C) (calls calls' : List Call) → like.kept kept kept' → failed kept calls → failed' kept' calls' → SameFound like found found'

      chooses_once : (chosen : Option ℕ) (status : Status) (request : Seen V) (kept kept' : Kept C) (calls calls' : List Call) (failed failed' : Failing) → like.kept kept kept' → FailsOnce failed failed'
          → Chooses rel table chosen status request kept calls (Finds found) failed → Chooses rel' table chosen status request kept' calls' (Finds found') failed' → SameFound like found found'
      chooses_once None status request kept kept' calls calls' failed failed' kepts fails chooses chooses' =
          paged_once status.code request kept kept' calls calls' kepts chooses.0 chooses'.0 chooses.1 chooses'.1 chooses.2 chooses'.2
      chooses_once (Some position) status request kept kept' [] calls' failed failed' kepts fails chooses chooses' = absurd chooses
      chooses_once (Some position) status request kept kept' (call ∷ calls) [] failed failed' kepts fails chooses chooses' = absurd chooses'
      chooses_once (Some position) status request kept kept' (call ∷ calls) (call' ∷ calls') failed failed' kepts fails chooses chooses' =
          let one = chooses.2 in
          let other = chooses'.2 in
          let same : other.catcher ≡ one.catcher = same_Some other.catcher one.catcher (sym other.found ∙ one.found) in
          let alike = replies_once one.catcher.handler status request kept kept' chooses.1 chooses'.1 chooses.0 chooses'.0 kepts one.made
          (subst (λ (c : Catcher K). CatcherReplies rel' table c.handler status request kept' chooses'.0 chooses'.1) same other.made) in
          let caught : ResponseOf S → Type 0 = λ response. Finds found response request chooses.1 calls in
          let caught' : ResponseOf S → Type 0 = λ response. Finds found' response request chooses'.1 calls' in
          catches_on like alike.answer alike.other caught caught' (failed chooses.1 calls) (failed' chooses'.1 calls') alike.same
          (subst (λ (r : Final (Result (ResponseOf S) Status)). Catches r caught (failed chooses.1 calls)) alike.is chooses.3)
          (subst (λ (r : Final (Result (ResponseOf S) Status)). Catches r caught' (failed' chooses'.1 calls')) alike.other_is chooses'.3)
          (λ response good. finds_once response request chooses.1 chooses'.1 calls calls' good alike.kept)
          (fails chooses.1 chooses'.1 calls calls' alike.kept)

      steps_once : (status : Status) (request : Seen V) (kept kept' : Kept C) (calls calls' : List Call) (failed failed' : Failing) → like.kept kept kept' → FailsOnce failed failed'
          → InvokesCatcher rel table status request kept calls (Finds found) failed → InvokesCatcher rel' table status request kept' calls' (Finds found') failed' → SameFound like found found'
      steps_once status request kept kept' calls calls' failed failed' kepts fails steps steps' =
          let same : steps'.0 ≡ steps.0 = one_chosen table.router.catchers status.code request steps'.0 steps.0 steps'.1 steps.1 in
          chooses_once steps.0 status request (settled kept) (settled kept') calls calls' failed failed' (once.settles kept kept' kepts) fails steps.2
          (subst (λ (chosen : Option ℕ). Chooses rel' table chosen status request (settled kept') calls' (Finds found') failed') same steps'.2)

      fails_once : (status : Status) (request : Seen V) → FailsOnce (Fails rel table status request (Finds found)) (Fails rel' table status request (Finds found'))
      fails_once status request kept kept' calls calls' kepts failed failed' =
          both_ways (status.code == 500) failed failed' (gives_up_once request kept kept' calls calls' kepts)
          (steps_once (record { code = 500 }) request kept kept' calls calls' (GivesUp request (Finds found)) (GivesUp request (Finds found')) kepts (gives_up_once request))

      errors_once : (status : Status) (request : Seen V) (kept kept' : Kept C) (calls calls' : List Call) → like.kept kept kept' → HandlesError rel table status request kept calls (Finds found)
          → HandlesError rel' table status request kept' calls' (Finds found') → SameFound like found found'
      errors_once status request kept kept' calls calls' kepts =
          steps_once status request kept kept' calls calls' (Fails rel table status request (Finds found)) (Fails rel' table status request (Finds found')) kepts (fails_once status request)

      settles_once : (reply reply' : Reply S B) (request : Seen V) (kept kept' : Kept C) (calls calls' : List Call) → SameReply like reply reply' → like.kept kept kept' → Settles rel table (Finds found) reply request kept calls
          → Settles rel' table (Finds found') reply' request kept' calls' → SameFound like found found'
      settles_once (Success response) reply' request kept kept' calls calls' same kepts is is' =
          finds_once response request kept kept' calls calls' same.1 kepts is (subst (λ (r : Reply S B). Settles rel' table (Finds found') r request kept' calls') same.0 is')
      settles_once (Error status) reply' request kept kept' calls calls' same kepts is is' =
          errors_once status request kept kept' calls calls' kepts is (subst (λ (r : Reply S B). Settles rel' table (Finds found') r request kept' calls') same is')
      settles_once (Forward back) reply' request kept kept' calls calls' same kepts is is' =
          errors_once back.1 request kept kept' calls calls' kepts is (subst (λ (r : Reply S B). Settles rel' table (Finds found') r request kept' calls') same.2 is')

      retries_once : (reply reply' : Reply S B) (request : Seen V) (kept kept' : Kept C) (calls calls' : List Call) → SameReply like reply reply' → like.kept kept kept' → Retries rel table (Finds found) reply request kept calls
          → Retries rel' table (Finds found') reply' request kept' calls' → SameFound like found found'
      retries_once (Success response) reply' request kept kept' calls calls' same kepts is is' =
          finds_once response request kept kept' calls calls' same.1 kepts is (subst (λ (r : Reply S B). Retries rel' table (Finds found') r request kept' calls') same.0 is')
      retries_once (Error status) reply' request kept kept' calls calls' same kepts is is' =
          errors_once status request kept kept' calls calls' kepts is (subst (λ (r : Reply S B). Retries rel' table (Finds found') r request kept' calls') same is')
      retries_once (Forward back) reply' request kept kept' calls calls' same kepts is is' =
          let other = subst (λ (r : Reply S B). Retries rel' table (Finds found') r request kept' calls') same.2 is' in
          both_ways (is_head request.method) is other
          (walks_on (Settles rel table (Finds found)) (Settles rel' table (Finds found')) settles_once calls None (record request { method = Get }) back.0 same.0 kept kept' (record { code = 404 }) calls' same.1 kepts)
          (errors_once back.1 request kept kept' calls calls' kepts)

      -- so a request is routed to one thing
      pub routes_once : (faults : List Bad) (request : Seen V) (body body' : B) (kept kept' : Kept C) (calls calls' : List Call) → like.bodies body body' → like.kept kept kept'
          → Routes rel table faults (at_ request body kept) calls (Finds found) → Routes rel' table faults (at_ request body' kept') calls' (Finds found') → SameFound like found found'
      routes_once [] request body body' kept kept' calls calls' bodies kepts routes routes' =
          walks_on (Retries rel table (Finds found)) (Retries rel' table (Finds found')) retries_once calls None request body body' kept kept' (record { code = 404 }) calls' bodies kepts routes routes'
      routes_once (fault ∷ faults) request body body' kept kept' calls calls' bodies kepts routes routes' =
          errors_once (record { code = 400 }) request kept kept' calls calls' kepts routes routes'
