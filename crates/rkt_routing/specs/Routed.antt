-- How a request is routed to its response, as the list of the calls that are made. Each phase takes what follows it as its last
-- argument, so that the whole is their composition.
use Rattle.std.specs.Prelude.{◌≡◌, ◌==◌, ◌&&◌, not, ℕ, List, [], ◌∷◌, Bool, true, false, Option, Some, None, Result, Ok, Err, MatchBool, MatchOption, length, max, slice_get}
use Rattle.rkt_dispatch.specs.Finalizing.{settled}
use Rattle.rkt_http.specs.declared.method.Method.{Method}
use Rattle.rkt_http.specs.declared.method.Method.TheVariants.{Get, Head}
use Rattle.rkt_http.specs.declared.outcome.Outcome.TheVariants.{Success, Error, Forward}
use Rattle.rkt_http.specs.declared.status.Status.{Status}
use Rattle.rkt_message.specs.Response.{ResponseOf}
use Rattle.rkt_request.specs.Lent.{Kept}
use Rattle.rkt_request.specs.Seen.{Seen}
use Rattle.rkt_request.specs.declared.bad.Bad.{Bad}
use Rattle.rkt_route.specs.declared.catcher.Catcher.{Catcher}
use Rattle.rkt_route.specs.declared.catcher.Catching.{Catching}
use Rattle.rkt_route.specs.declared.catcher.Catching.TheVariants.{Rocket, App}
use Rattle.rkt_route.specs.declared.route.Route.{Route}
use Rattle.rkt_router.specs.Callbacks.{Reply, RequestAt}
use Rattle.rkt_router.specs.Calls.{Made}
use Rattle.rkt_router.specs.Catchers.{IsChosen}
use Rattle.rkt_router.specs.Page.{IsDefaultPage}
use Rattle.rkt_router.specs.Tries.{IsNextTry}
use Rattle.rkt_router.specs.declared.turn.Final.{Final}
use Rattle.rkt_router.specs.declared.turn.Final.TheVariants.{Done, FailedTurn, Starved}
use Rattle.rkt_uri.specs.Origin.{segments_of}
use Rattle.rkt_routing.specs.Found.{Found}
use Rattle.rkt_routing.specs.Recorded.{recorded, handler_answer, catcher_answer}
use Rattle.rkt_routing.specs.Relations.{Relations}
use Rattle.rkt_routing.specs.declared.run.Call.{Call}
use Rattle.rkt_routing.specs.declared.run.Which.TheVariants as which
use Rattle.rkt_routing.specs.Table.{SeenTable}

abbrev pub is_head : Method → Bool
is_head Head = true
is_head _ = false

-- a HEAD request is walked once more where a first walk forwarded it
abbrev pub is_retried : Method → Bool → Bool
is_retried method again = is_head method && not again

-- a request while it is tried on the route at this position
abbrev pub mounted : {V H N : Type 0} → Seen V → Route H N → ℕ → Seen V
mounted request route position =
    record request { route = Some (record { position = position; base_segments = length (segments_of route.uri.base) }) }

-- as often as each callback may be polled
abbrev pub turns_of : {H K N : Type 0} → SeenTable H K N → ℕ
turns_of table = max table.turns 1

-- where a handler's reply leads: on with a body and a status, or to an outcome; a failed turn is an Error with 500
abbrev pub Goes : {S B : Type 0} → Final (Reply S B) → (B → Status → Type 0) → (Reply S B → Type 0) → Type 0
Goes (Done (Success response)) on stop = stop (Success response)
Goes (Done (Error status)) on stop = stop (Error status)
Goes (Done (Forward back)) on stop = on back.0 back.1
Goes FailedTurn on stop = stop (Error (record { code = 500 }))
Goes Starved on stop = ⊥

-- where a catcher's reply leads; a refusal and a failed turn are alike
abbrev pub Catches : {S : Type 0} → Final (Result (ResponseOf S) Status) → (ResponseOf S → Type 0) → Type 0 → Type 0
Catches (Done (Ok response)) caught failed = caught response
Catches (Done (Err status)) caught failed = failed
Catches FailedTurn caught failed = failed
Catches Starved caught failed = ⊥

-- what follows a response to a request; V is the type of managed values, C that of cached values, S that of streams
abbrev pub Following : Type 0 → Type 0 → Type 0 → Type 1
Following V C S = ResponseOf S → Seen V → Kept C → List Call → Type 0

-- the last step failed: the default page of 500 answers
abbrev pub GivesUp : {V C S : Type 0} → Seen V → Following V C S → Kept C → List Call → Type 0
GivesUp {S = S} request answered kept calls =
    (page : ResponseOf S) × IsDefaultPage 500 request page × answered page request kept calls

module _ {V B C S H HTask K KTask N : Type 0} (rel : Relations V B C S H HTask K KTask) (table : SeenTable H K N) where
  -- the route at a position was called, and replied so
  pub record RouteCall (position : ℕ) (at : RequestAt V B C) (call : Call) (reply : Final (Reply S B))
      (after : Kept C) : Type 0 where
    pub route : Route H N
    pub found : slice_get table.router.routes position ≡ Some route
    pub made : Made rel.handlers rel.gates (turns_of table) route.handler
        (record { request = mounted at.request route position; body = at.body }) at.kept reply after
    pub kept_as : call ≡ recorded (which.Route position) (handler_answer reply) after

  -- what a catcher replies: the default page where it has no handler of its own
  abbrev pub CatcherReplies : Catching K → Status → Seen V → Kept C → Final (Result (ResponseOf S) Status) → Kept C → Type 0
  CatcherReplies Rocket status request before reply after =
      (page : ResponseOf S) × IsDefaultPage status.code request page × (reply ≡ Done (Ok page)) × (after ≡ before)
  CatcherReplies (App handler) status request before reply after =
      Made rel.catchers rel.gates (turns_of table) handler (record { status = status; request = request }) before reply after

  -- the catcher at a position was called, and replied so
  pub record CatcherCall (position : ℕ) (status : Status) (request : Seen V) (before : Kept C) (call : Call)
      (reply : Final (Result (ResponseOf S) Status)) (after : Kept C) : Type 0 where
    pub catcher : Catcher K
    pub found : slice_get table.router.catchers position ≡ Some catcher
    pub made : CatcherReplies catcher.handler status request before reply after
    pub kept_as : call ≡ recorded (which.Catcher position) (catcher_answer reply) after

  -- behind one position, or from the first on, the routes that match are tried in order, and then: each is handed the body
  -- that the one before gave back, and where none is left the body is forwarded with the last status
  abbrev pub TriesRoutes : Option ℕ → RequestAt V B C → Status → List Call → (Reply S B → Seen V → Kept C → List Call → Type 0)
      → Type 0
  TriesRoutes behind at status [] then_ =
      IsNextTry table.router.routes at.request behind None × then_ (Forward (at.body, status)) at.request at.kept []
  TriesRoutes behind at status (call ∷ calls) then_ =
      (next : Option ℕ)
      × IsNextTry table.router.routes at.request behind next
      × MatchOption next (then_ (Forward (at.body, status)) at.request at.kept (call ∷ calls)) (λ position.
      (reply : Final (Reply S B)) × (after : Kept C) × (call_is : RouteCall position at call reply after)
      × Goes reply
      (λ body status'. TriesRoutes (Some position)
      (record { request = mounted at.request call_is.route position; body = body; kept = after }) status' calls then_)
      (λ outcome. then_ outcome (mounted at.request call_is.route position) after calls))

  -- the chosen catcher is called, or the default page of the status answers where none is; and then
  abbrev pub Chooses : Option ℕ → Status → Seen V → Kept C → List Call → Following V C S → (Kept C → List Call → Type 0)
      → Type 0
  Chooses None status request kept calls answered failed =
      (page : ResponseOf S) × IsDefaultPage status.code request page × answered page request kept calls
  Chooses (Some position) status request kept [] answered failed = ⊥
  Chooses (Some position) status request kept (call ∷ calls) answered failed =
      (reply : Final (Result (ResponseOf S) Status)) × (after : Kept C)
      × CatcherCall position status request kept call reply after
      × Catches reply (λ response. answered response request after calls) (failed after calls)

  -- one step for a status: the changes so far are pending no more, and a catcher is chosen
  abbrev pub InvokesCatcher : Status → Seen V → Kept C → List Call → Following V C S → (Kept C → List Call → Type 0) → Type 0
  InvokesCatcher status request kept calls answered failed =
      (chosen : Option ℕ)
      × IsChosen table.router.catchers status.code request chosen
      × Chooses chosen status request (settled kept) calls answered failed

  -- a step for a status failed: one for 500 follows, unless it was that
  abbrev pub Fails : Status → Seen V → Following V C S → Kept C → List Call → Type 0
  Fails status request answered kept calls =
      MatchBool (status.code == 500) (GivesUp request answered kept calls)
      (InvokesCatcher (record { code = 500 }) request kept calls answered (GivesUp request answered))

  -- a status is answered: a step for it and, where that fails and it was not 500, one for 500
  abbrev pub HandlesError : Status → Seen V → Kept C → List Call → Following V C S → Type 0
  HandlesError status request kept calls answered =
      InvokesCatcher status request kept calls answered (Fails status request answered)

  -- an outcome that is no success is answered by its catcher
  abbrev pub Settles : Following V C S → Reply S B → Seen V → Kept C → List Call → Type 0
  Settles answered (Success response) request kept calls = answered response request kept calls
  Settles answered (Error status) request kept calls = HandlesError status request kept calls answered
  Settles answered (Forward back) request kept calls = HandlesError back.1 request kept calls answered

  -- the same of a first walk: a HEAD request that was forwarded becomes a GET, for good, and is walked once more, and the
  -- status begins at 404 again
  abbrev pub Retries : Following V C S → Reply S B → Seen V → Kept C → List Call → Type 0
  Retries answered (Success response) request kept calls = answered response request kept calls
  Retries answered (Error status) request kept calls = HandlesError status request kept calls answered
  Retries answered (Forward back) request kept calls =
      MatchBool (is_head request.method)
      (TriesRoutes None (record { request = record request { method = Get }; body = back.0; kept = kept })
      (record { code = 404 }) calls (Settles answered)) (HandlesError back.1 request kept calls answered)

  -- a bad request is answered by the catcher of 400 alone; any other is walked
  abbrev pub Routes : List Bad → RequestAt V B C → List Call → Following V C S → Type 0
  Routes [] at calls answered = TriesRoutes None at (record { code = 404 }) calls (Retries answered)
  Routes (fault ∷ faults) at calls answered = HandlesError (record { code = 400 }) at.request at.kept calls answered

-- no call follows, and this was found
abbrev pub Finds : {V C S : Type 0} → Found V C S → Following V C S
Finds found response request kept calls =
    (calls ≡ []) × (found ≡ record { response = response; request = request; kept = kept })
