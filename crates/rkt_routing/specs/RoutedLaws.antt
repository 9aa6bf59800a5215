-- A law of routing: the calls that lead to what is found, and whatever follows it, are routing that is followed by that.
use Rattle.std.specs.Prelude.{◌++◌, ◌==◌, ℕ, List, [], ◌∷◌, Bool, true, false, Option, Some, None, Result, Ok, Err, MatchBool, MatchOption}
use Rattle.std.proofs.Common.{sym, subst}
use Rattle.rkt_http.specs.declared.method.Method.TheVariants.{Get}
use Rattle.rkt_http.specs.declared.outcome.Outcome.TheVariants.{Success, Error, Forward}
use Rattle.rkt_http.specs.declared.status.Status.{Status}
use Rattle.rkt_message.specs.Response.{ResponseOf}
use Rattle.rkt_request.specs.Lent.{Kept}
use Rattle.rkt_request.specs.Seen.{Seen}
use Rattle.rkt_request.specs.declared.bad.Bad.{Bad}
use Rattle.rkt_router.specs.Callbacks.{Reply, RequestAt}
use Rattle.rkt_router.specs.Tries.{IsNextTry}
use Rattle.rkt_router.specs.declared.turn.Final.{Final}
use Rattle.rkt_router.specs.declared.turn.Final.TheVariants.{Done, FailedTurn, Starved}
use Rattle.rkt_routing.specs.Found.{Found}
use Rattle.rkt_routing.specs.Relations.{Relations}
use Rattle.rkt_routing.specs.Routed.{Catches, Chooses, HandlesError, Fails, Finds, Following, GivesUp, Goes, Retries, RouteCall, Routes, Settles, InvokesCatcher, TriesRoutes, is_head, mounted}
use Rattle.rkt_routing.specs.Table.{SeenTable}
use Rattle.rkt_routing.specs.declared.run.Call.{Call}

either_way : (b : Bool) {P Q P' Q' : Type 0} → (P → P') → (Q → Q') → MatchBool b P Q → MatchBool b P' Q'
either_way true f g p = f p
either_way false f g q = g q

caught_way : {S : Type 0} (reply : Final (Result (ResponseOf S) Status)) {caught caught' : ResponseOf S → Type 0}
    {failed failed' : Type 0}
    → ((response : ResponseOf S) → caught response → caught' response)
    → (failed → failed')
    → Catches reply caught failed
    → Catches reply caught' failed'
caught_way (Done (Ok response)) f g c = f response c
caught_way (Done (Err status)) f g c = g c
caught_way FailedTurn f g c = g c
caught_way Starved f g c = absurd c

goes_way : {S B : Type 0} (reply : Final (Reply S B)) {on on' : B → Status → Type 0} {stop stop' : Reply S B → Type 0}
    → ((body : B) (status : Status) → on body status → on' body status)
    → ((outcome : Reply S B) → stop outcome → stop' outcome)
    → Goes reply on stop
    → Goes reply on' stop'
goes_way (Done (Success response)) f g c = g (Success response) c
goes_way (Done (Error status)) f g c = g (Error status) c
goes_way (Done (Forward back)) f g c = f back.0 back.1 c
goes_way FailedTurn f g c = g (Error (record { code = 500 })) c
goes_way Starved f g c = absurd c

module _ {V B C S H HTask K KTask N : Type 0} (rel : Relations V B C S H HTask K KTask) (table : SeenTable H K N)
    (found : Found V C S) (rest : List Call) (answered : Following V C S)
    (done : answered found.response found.request found.kept rest) where
  finds_then : (response : ResponseOf S) (request : Seen V) (kept : Kept C) (calls : List Call)
      → Finds found response request kept calls
      → answered response request kept (calls ++ rest)
  finds_then response request kept calls finds =
      subst (λ cs. answered response request kept (cs ++ rest)) (sym finds.0)
      (subst (λ f. answered f.response f.request f.kept rest) finds.1 done)

  gives_up_then : (request : Seen V) (kept : Kept C) (calls : List Call)
      → GivesUp request (Finds found) kept calls
      → GivesUp request answered kept (calls ++ rest)
  gives_up_then request kept calls gives = (gives.0, gives.1, finds_then gives.0 request kept calls gives.2)

  chooses_then : (chosen : Option ℕ) (status : Status) (request : Seen V) (kept : Kept C) (calls : List Call)
      (failed failed' : Kept C → List Call → Type 0)
      → ((k : Kept C) (cs : List Call) → failed k cs → failed' k (cs ++ rest))
      → Chooses rel table chosen status request kept calls (Finds found) failed
      → Chooses rel table chosen status request kept (calls ++ rest) answered failed'
  chooses_then None status request kept calls failed failed' fails chooses =
      (chooses.0, chooses.1, finds_then chooses.0 request kept calls chooses.2)
  chooses_then (Some position) status request kept [] failed failed' fails chooses = absurd chooses
  chooses_then (Some position) status request kept (call ∷ calls) failed failed' fails chooses = (
    chooses.0,
    chooses.1,
    chooses.2,
    caught_way chooses.0 (λ response. finds_then response request chooses.1 calls) (fails chooses.1 calls) chooses.3,
  )

  steps_then : (status : Status) (request : Seen V) (kept : Kept C) (calls : List Call)
      (failed failed' : Kept C → List Call → Type 0)
      → ((k : Kept C) (cs : List Call) → failed k cs → failed' k (cs ++ rest))
      → InvokesCatcher rel table status request kept calls (Finds found) failed
      → InvokesCatcher rel table status request kept (calls ++ rest) answered failed'
  steps_then status request kept calls failed failed' fails steps =
      (steps.0, steps.1, chooses_then steps.0 status request _ calls failed failed' fails steps.2)

  fails_then : (status : Status) (request : Seen V) (kept : Kept C) (calls : List Call)
      → Fails rel table status request (Finds found) kept calls
      → Fails rel table status request answered kept (calls ++ rest)
  fails_then status request kept calls =
      either_way (status.code == 500) (gives_up_then request kept calls)
      (steps_then (record { code = 500 }) request kept calls _ _ (gives_up_then request))

  errors_then : (status : Status) (request : Seen V) (kept : Kept C) (calls : List Call)
      → HandlesError rel table status request kept calls (Finds found)
      → HandlesError rel table status request kept (calls ++ rest) answered
  errors_then status request kept calls = steps_then status request kept calls _ _ (fails_then status request)

  settles_then : (reply : Reply S B) (request : Seen V) (kept : Kept C) (calls : List Call)
      → Settles rel table (Finds found) reply request kept calls
      → Settles rel table answered reply request kept (calls ++ rest)
  settles_then (Success response) request kept calls settles = finds_then response request kept calls settles
  settles_then (Error status) request kept calls settles = errors_then status request kept calls settles
  settles_then (Forward back) request kept calls settles = errors_then back.1 request kept calls settles

  module _ (then_ then_' : Reply S B → Seen V → Kept C → List Call → Type 0)
      (on : (reply : Reply S B) (request : Seen V) (kept : Kept C) (calls : List Call)
      → then_ reply request kept calls
      → then_' reply request kept (calls ++ rest)) where
    none_left : (behind : Option ℕ) (at : RequestAt V B C) (status : Status) (calls : List Call)
        → IsNextTry table.router.routes at.request behind None
        → then_' (Forward (at.body, status)) at.request at.kept calls
        → TriesRoutes rel table behind at status calls then_'
    none_left behind at status [] none is = (none, is)
    none_left behind at status (call ∷ calls) none is = (None, none, is)

    -- behind a call, where what follows it goes on so
    next_then : (behind : Option ℕ) (at : RequestAt V B C) (status : Status) (call : Call) (calls : List Call) (next : Option ℕ)
        → ((behind : Option ℕ) (at : RequestAt V B C) (status : Status)
        → TriesRoutes rel table behind at status calls then_
        → TriesRoutes rel table behind at status (calls ++ rest) then_')
        → IsNextTry table.router.routes at.request behind next
        → MatchOption next (then_ (Forward (at.body, status)) at.request at.kept (call ∷ calls)) (λ position.
        (reply : Final (Reply S B)) × (after : Kept C) × (call_is : RouteCall rel table position at call reply after)
        × Goes reply
        (λ body status'. TriesRoutes rel table (Some position)
        (record { request = mounted at.request call_is.route position; body = body; kept = after }) status' calls then_)
        (λ outcome. then_ outcome (mounted at.request call_is.route position) after calls))
        → TriesRoutes rel table behind at status ((call ∷ calls) ++ rest) then_'
    next_then behind at status call calls None more is goes = (None, is, on _ at.request at.kept (call ∷ calls) goes)
    next_then behind at status call calls (Some position) more is goes = (
      Some position,
      is,
      (
        goes.0,
        goes.1,
        goes.2,
        goes_way goes.0
            (λ body status'. more (Some position)
            (record { request = mounted at.request goes.2.route position; body = body; kept = goes.1 }) status')
            (λ outcome. on outcome (mounted at.request goes.2.route position) goes.1 calls) goes.3,
      ),
    )

    walks_then : (behind : Option ℕ) (at : RequestAt V B C) (status : Status) (calls : List Call)
        → TriesRoutes rel table behind at status calls then_
        → TriesRoutes rel table behind at status (calls ++ rest) then_'
    walks_then behind at status [] walks = none_left behind at status rest walks.0 (on _ at.request at.kept [] walks.1)
    walks_then behind at status (call ∷ calls) walks =
        next_then behind at status call calls walks.0
        (λ behind' at' status'. walks_then behind' at' status' calls) walks.1 walks.2

  retries_then : (reply : Reply S B) (request : Seen V) (kept : Kept C) (calls : List Call)
      → Retries rel table (Finds found) reply request kept calls
      → Retries rel table answered reply request kept (calls ++ rest)
  retries_then (Success response) request kept calls retries = finds_then response request kept calls retries
  retries_then (Error status) request kept calls retries = errors_then status request kept calls retries
  retries_then (Forward back) request kept calls retries =
      either_way (is_head request.method)
      (walks_then (Settles rel table (Finds found)) (Settles rel table answered) settles_then None
      (record { request = record request { method = Get }; body = back.0; kept = kept }) (record { code = 404 }) calls)
      (errors_then back.1 request kept calls) retries

  pub routes_then : (faults : List Bad) (at : RequestAt V B C) (calls : List Call)
      → Routes rel table faults at calls (Finds found)
      → Routes rel table faults at (calls ++ rest) answered
  routes_then [] at calls routes =
      walks_then (Retries rel table (Finds found)) (Retries rel table answered) retries_then None at
      (record { code = 404 }) calls routes
  routes_then (fault ∷ faults) at calls routes = errors_then (record { code = 400 }) at.request at.kept calls routes
