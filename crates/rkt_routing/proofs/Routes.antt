-- The walk over the routes of a request.
use Rattle.std.specs.Prelude.{◌≡◌, ◌++◌, ◌+◌, ◌<◌, ℕ, List, [], ◌∷◌, Bool, true, false, Option, Some, None, length, slice_get}
use Rattle.std.proofs.Common.{refl, sym, ap, ◌∙◌, subst}
use Rattle.std.proofs.lemmas.Option.{slice_get_within}
use Rattle.rkt_http.specs.declared.method.Method.TheVariants.{Get}
use Rattle.rkt_http.specs.declared.outcome.Outcome.TheVariants.{Success, Error, Forward}
use Rattle.rkt_http.specs.declared.status.Status.{Status}
use Rattle.rkt_message.specs.Response.{ResponseOf}
use Rattle.rkt_request.specs.Lent.{Kept, Lent, Grows}
use Rattle.rkt_request.specs.Seen.{Seen}
use Rattle.rkt_route.specs.declared.route.Route.{Route}
use Rattle.rkt_router.specs.Callbacks.{Reply}
use Rattle.rkt_router.specs.Calling.{Polls, Starts}
use Rattle.rkt_router.specs.CallLaws.{making_begins}
use Rattle.rkt_router.specs.Calls.{GateFits, Made, Making, OnceOver, PolledAs}
use Rattle.rkt_router.specs.Tries.{IsNextTry}
use Rattle.rkt_router.specs.declared.step.Step.TheVariants as step
use Rattle.rkt_router.specs.declared.turn.Final.{Final}
use Rattle.rkt_router.specs.declared.turn.Final.TheVariants as final
use Rattle.rkt_router.specs.declared.turn.Polled.{Polled}
use Rattle.rkt_router.specs.declared.turn.Polled.TheVariants as turn
use Rattle.rkt_routing.specs.Beginning.{Beginning}
use Rattle.rkt_routing.specs.Found.{Found}
use Rattle.rkt_routing.specs.Routed.{Finds, TriesRoutes, Goes, mounted, is_retried, turns_of}
use Rattle.rkt_routing.specs.Recorded.{recorded, handler_answer}
use Rattle.rkt_routing.specs.Relations.{Relations}
use Rattle.rkt_routing.specs.Invariant.{Answered, Follows, Forwards, Replied, RouteTurned, InvariantAt, Tried, Trying, WaitsAt}
use Rattle.rkt_routing.specs.declared.run.Call.{Call}
use Rattle.rkt_routing.specs.declared.run.Which.TheVariants as which
use Rattle.rkt_routing.specs.declared.stage.Live.{Live}
use Rattle.rkt_routing.specs.declared.stage.Stage.TheVariants as stage
use Rattle.rkt_routing.specs.Table.{SeenTable}
use Rattle.rkt_routing.specs.MakingLaws.{pends, some_turns}
use Rattle.rkt_routing.proofs.InvokesCatcher.{between_call, between_on, follows_again, follows_error, follows_forward, follows_success, walks_none}

module _ {V B C S H HTask K KTask N : Type 0} (rel : Relations V B C S H HTask K KTask) (first : Beginning V B C) (table : SeenTable H K N) where
  -- no route is left
  pub next_none : (live : Live (Seen V) (Lent C)) (behind : Option ℕ) (body : B) (status : Status) (again : Bool) → IsNextTry table.router.routes live.request behind None
      → InvariantAt rel first table live (stage.Next behind body status again) → Forwards rel first table live body status again
  next_none live behind body status again none stands =
      between_on rel first table live.ctx.kept live.ctx.kept live.calls _ _ refl (λ rest found done. walks_none rel table behind (record { request = live.request; body = body; kept = live.ctx.kept }) status rest _ none done) stands

  -- the call of the next one has begun
  pub next_some : (live live' : Live (Seen V) (Lent C)) (behind : Option ℕ) (body : B) (status : Status) (again : Bool) (position : ℕ) (route : Route H N) (task : HTask)
      → live'.ctx ≡ live.ctx → live'.calls ≡ live.calls → live'.request ≡ mounted live.request route position
      → IsNextTry table.router.routes live.request behind (Some position) → slice_get table.router.routes position ≡ Some route
      → Starts rel.handlers route.handler (record { request = live'.request; body = body }) task
      → InvariantAt rel first table live (stage.Next behind body status again) → InvariantAt rel first table live' (stage.Trying (record { position = position; task = task; turn = 0; again = again }))
  next_some live live' behind body status again position route task ctx_is calls_is mounted_is next found starts stands = record {
    before = record { request = live.request; body = body; kept = live.ctx.kept };
    status = status;
    behind = behind;
    route = route;
    found = found;
    next = next;
    mounted_is = mounted_is;
    between = rw calls_is stands;
    making = rw ctx_is (making_begins rel.handlers rel.gates (turns_of table) route.handler (record { request = live'.request; body = body }) {before = live.ctx.kept} {task = task} (some_turns table.turns) starts);
  }

  -- a request is walked once more, or answered by a catcher
  pub walked_again : (live : Live (Seen V) (Lent C)) (body : B) (status : Status) (again : Bool) → is_retried live.request.method again ≡ true
      → Forwards rel first table live body status again
      → InvariantAt rel first table (record live { request = record live.request { method = Get } }) (stage.Next None body (record { code = 404 }) true)
  walked_again live body status again is forwards =
      between_on rel first table live.ctx.kept live.ctx.kept live.calls _ _ refl
      (λ rest found done. follows_again rel table again (Finds found) body status live.request live.ctx.kept rest is done) forwards

  pub caught_forward : (live : Live (Seen V) (Lent C)) (body : B) (status : Status) (again : Bool) → is_retried live.request.method again ≡ false
      → Forwards rel first table live body status again → InvariantAt rel first table live (stage.Catch status)
  caught_forward live body status again last forwards =
      between_on rel first table live.ctx.kept live.ctx.kept live.calls _ _ refl
      (λ rest found done. follows_forward rel table again (Finds found) body status live.request live.ctx.kept rest last done) forwards

  -- a route was Pending
  pub trying_waits : (live : Live (Seen V) (Lent C)) (ctx : Lent C) (position : ℕ) (task task' : HTask) (turn : ℕ) (again : Bool) (route : Route H N)
      → ctx.gate ≡ live.ctx.gate → slice_get table.router.routes position ≡ Some route → turn + 1 < turns_of table → GateFits rel.gates live.ctx.gate
      → ((body : B) → Polls rel.handlers route.handler (record { request = live.request; body = body }) task live.ctx.kept live.ctx.gate step.Pending task' ctx.kept)
      → Trying rel first table live position task turn again → WaitsAt rel first table (record live { ctx = ctx }) (stage.Trying (record { position = position; task = task'; turn = turn + 1; again = again }))
  trying_waits live ctx position task task' turn again route gate_is found more fits polls was =
      let same : route ≡ was.route = cc (found, was.found) in
      let after =
      pends rel.handlers rel.gates (turns_of table) was.route.handler (record { request = live.request; body = was.before.body }) was.before.kept live.ctx.kept ctx.kept live.ctx.gate task task' turn more fits was.making
      (subst (λ r. Polls rel.handlers r.handler (record { request = live.request; body = was.before.body }) task live.ctx.kept live.ctx.gate step.Pending task' ctx.kept) same (polls was.before.body)) in (
        record {
          before = was.before;
          status = was.status;
          behind = was.behind;
          route = was.route;
          found = was.found;
          next = was.next;
          mounted_is = was.mounted_is;
          between = was.between;
          making = after.0;
        },
        (was.making.gates, rw gate_is after.1),
      )

  -- a route's call is over
  pub trying_tried : (live live' : Live (Seen V) (Lent C)) (position : ℕ) (task : HTask) (turn : ℕ) (again : Bool) (reply : Final (Reply S B))
      → live'.request ≡ live.request → live'.calls ≡ live.calls
      → (was : Trying rel first table live position task turn again)
      → Grows was.before.kept live'.ctx.kept
      → OnceOver reply (Made rel.handlers rel.gates (turns_of table) was.route.handler (record { request = live.request; body = was.before.body }) was.before.kept reply live'.ctx.kept)
      → Tried rel first table live' position again reply
  trying_tried live live' position task turn again reply request_is calls_is was grows made = record {
    before = was.before;
    status = was.status;
    behind = was.behind;
    route = was.route;
    found = was.found;
    next = was.next;
    mounted_is = request_is ∙ was.mounted_is;
    between = rw calls_is was.between;
    grows = grows;
    made = rw request_is made;
  }

  -- its place is one of the routes, and its call is under way
  pub trying_within : (live : Live (Seen V) (Lent C)) (position : ℕ) (task : HTask) (n : ℕ) (again : Bool) → Trying rel first table live position task n again → position < length table.router.routes
  trying_within live position task n again was = slice_get_within table.router.routes position was.route was.found

  pub trying_makes : (live : Live (Seen V) (Lent C)) (position : ℕ) (task : HTask) (n : ℕ) (again : Bool) (route : Route H N) (turns : ℕ) → turns ≡ turns_of table → slice_get table.router.routes position ≡ Some route
      → (was : Trying rel first table live position task n again)
      → Making rel.handlers rel.gates turns route.handler (record { request = live.request; body = was.before.body }) was.before.kept task live.ctx.kept n
  trying_makes live position task n again route turns turns_is found was =
      let same : route ≡ was.route = cc (found, was.found) in
      subst (λ t. Making rel.handlers rel.gates t route.handler (record { request = live.request; body = was.before.body }) was.before.kept task live.ctx.kept n) (sym turns_is)
      (subst (λ r. Making rel.handlers rel.gates (turns_of table) r.handler (record { request = live.request; body = was.before.body }) was.before.kept task live.ctx.kept n) (sym same) was.making)

  -- a turn of its call was made, of which there are so many
  pub trying_turned : (live : Live (Seen V) (Lent C)) (ctx : Lent C) (position : ℕ) (task task' : HTask) (n : ℕ) (again : Bool) (route : Route H N) (turns : ℕ) (made : Polled (Reply S B))
      → turns ≡ turns_of table → slice_get table.router.routes position ≡ Some route → ctx.gate ≡ live.ctx.gate → GateFits rel.gates live.ctx.gate → (made ≡ turn.Pending → n + 1 < turns)
      → (made ≡ turn.Pending → (body : B) → Polls rel.handlers route.handler (record { request = live.request; body = body }) task live.ctx.kept live.ctx.gate step.Pending task' ctx.kept)
      → ((body : B) (before : Kept C) → Making rel.handlers rel.gates turns route.handler (record { request = live.request; body = body }) before task live.ctx.kept n → Grows before ctx.kept)
      → ((body : B) (before : Kept C) → Making rel.handlers rel.gates turns route.handler (record { request = live.request; body = body }) before task live.ctx.kept n
      → PolledAs rel.handlers rel.gates turns route.handler (record { request = live.request; body = body }) before made task' ctx.kept (n + 1))
      → Trying rel first table live position task n again
      → RouteTurned rel first table (record live { ctx = ctx }) (record { position = position; task = task'; turn = n + 1; again = again }) made
  trying_turned live ctx position task task' n again route turns turn.Pending turns_is found gate_is fits left pending grows gives was =
      trying_waits live ctx position task task' n again route gate_is found (subst (λ t. n + 1 < t) turns_is (left refl)) fits (pending refl) was
  trying_turned live ctx position task task' n again route turns (turn.Over reply) turns_is found gate_is fits left pending grows gives was =
      let same : route ≡ was.route = cc (found, was.found) in
      let making = subst (λ t. Making rel.handlers rel.gates t route.handler (record { request = live.request; body = was.before.body }) was.before.kept task live.ctx.kept n) (sym turns_is)
      (subst (λ r. Making rel.handlers rel.gates (turns_of table) r.handler (record { request = live.request; body = was.before.body }) was.before.kept task live.ctx.kept n) (sym same) was.making) in
      trying_tried live (record live { ctx = ctx }) position task n again reply refl refl was (grows was.before.body was.before.kept making)
      (subst (λ r. OnceOver reply (Made rel.handlers rel.gates (turns_of table) r.handler (record { request = live.request; body = was.before.body }) was.before.kept reply ctx.kept)) same
      (subst (λ t. OnceOver reply (Made rel.handlers rel.gates t route.handler (record { request = live.request; body = was.before.body }) was.before.kept reply ctx.kept)) turns_is
      (gives was.before.body was.before.kept making)))

  goes_once : {P : Type 0} (reply : Final (Reply S B)) (on : B → Status → Type 0) (stop : Reply S B → Type 0) → Goes reply on stop → OnceOver reply P → P
  goes_once (final.Done (Success response)) on stop goes p = p
  goes_once (final.Done (Error status)) on stop goes p = p
  goes_once (final.Done (Forward back)) on stop goes p = p
  goes_once final.FailedTurn on stop goes p = p
  goes_once final.Starved on stop goes p = absurd goes

  -- and recorded
  pub tried_replied : (live live' : Live (Seen V) (Lent C)) (position : ℕ) (again : Bool) (reply : Final (Reply S B)) (call : Call)
      → live'.request ≡ live.request → live'.ctx ≡ live.ctx → live'.calls ≡ live.calls ++ call ∷ []
      → call ≡ recorded (which.Route position) (handler_answer reply) live.ctx.kept
      → Tried rel first table live position again reply → Replied rel first table live' position again reply
  tried_replied live live' position again reply call request_is ctx_is calls_is call_is tried =
      rw (request_is, ctx_is) (between_call rel first table tried.before.kept live.ctx.kept live.calls live'.calls call _ _ tried.grows.shutdown (ap (λ c. c.word) call_is) calls_is more tried.between)
    where
      more : (rest : List Call) (found : Found V C S)
          → Goes reply (λ body status. TriesRoutes rel table (Some position) (record { request = live.request; body = body; kept = live.ctx.kept }) status rest (Follows rel table again (Finds found)))
          (λ outcome. Follows rel table again (Finds found) outcome live.request live.ctx.kept rest)
          → TriesRoutes rel table tried.behind tried.before tried.status (call ∷ rest) (Follows rel table again (Finds found))
      more rest found goes = (
        Some position,
        tried.next,
        (
          reply,
          live.ctx.kept,
          record {
            route = tried.route;
            found = tried.found;
            made = subst (λ q. Made rel.handlers rel.gates (turns_of table) tried.route.handler (record { request = q; body = tried.before.body }) tried.before.kept reply live.ctx.kept) tried.mounted_is
                (goes_once reply _ _ goes tried.made);
            kept_as = call_is;
          },
          subst (λ q. Goes reply (λ body status. TriesRoutes rel table (Some position) (record { request = q; body = body; kept = live.ctx.kept }) status rest (Follows rel table again (Finds found)))
              (λ outcome. Follows rel table again (Finds found) outcome q live.ctx.kept rest)) tried.mounted_is goes,
        ),
      )

  -- where a reply leads
  pub replied_success : (live : Live (Seen V) (Lent C)) (position : ℕ) (again : Bool) (reply : Final (Reply S B)) (response : ResponseOf S) → reply ≡ final.Done (Success response)
      → Replied rel first table live position again reply → Answered rel first table live response
  replied_success live position again reply response is replied =
      between_on rel first table live.ctx.kept live.ctx.kept live.calls _ _ refl (λ rest found done. follows_success rel table again (Finds found) response live.request live.ctx.kept rest done)
      (subst (Replied rel first table live position again) is replied)

  pub replied_error : (live : Live (Seen V) (Lent C)) (position : ℕ) (again : Bool) (reply : Final (Reply S B)) (status : Status) → reply ≡ final.Done (Error status)
      → Replied rel first table live position again reply → InvariantAt rel first table live (stage.Catch status)
  replied_error live position again reply status is replied =
      between_on rel first table live.ctx.kept live.ctx.kept live.calls _ _ refl (λ rest found done. follows_error rel table again (Finds found) status live.request live.ctx.kept rest done)
      (subst (Replied rel first table live position again) is replied)

  pub replied_failed : (live : Live (Seen V) (Lent C)) (position : ℕ) (again : Bool) (reply : Final (Reply S B)) → reply ≡ final.FailedTurn
      → Replied rel first table live position again reply → InvariantAt rel first table live (stage.Catch (record { code = 500 }))
  replied_failed live position again reply is replied =
      between_on rel first table live.ctx.kept live.ctx.kept live.calls _ _ refl (λ rest found done. follows_error rel table again (Finds found) (record { code = 500 }) live.request live.ctx.kept rest done)
      (subst (Replied rel first table live position again) is replied)

  pub replied_forward : (live : Live (Seen V) (Lent C)) (position : ℕ) (again : Bool) (reply : Final (Reply S B)) (body : B) (status : Status) → reply ≡ final.Done (Forward (body, status))
      → Replied rel first table live position again reply → InvariantAt rel first table live (stage.Next (Some position) body status again)
  replied_forward live position again reply body status is replied = subst (Replied rel first table live position again) is replied
