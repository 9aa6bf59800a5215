-- The calls of a walk are of the routes that its request is tried on.
use Rattle.std.specs.Prelude.{◌≡◌, ◌++◌, ℕ, List, [], ◌∷◌, Option, Some, None, MatchOption, map}
use Rattle.std.proofs.Common.{ap, ap₂, refl}
use Rattle.rkt_http.specs.declared.outcome.Outcome.TheVariants.{Success, Error, Forward}
use Rattle.rkt_http.specs.declared.status.Status.{Status}
use Rattle.rkt_request.specs.Lent.{Kept}
use Rattle.rkt_request.specs.Seen.{Seen}
use Rattle.rkt_route.specs.declared.route.Route.{Route}
use Rattle.rkt_router.specs.Callbacks.{Reply, RequestAt}
use Rattle.rkt_router.specs.Tries.{AllNextTries, IsNextTry, IsTries, NextTries, TriedAlike}
use Rattle.rkt_router.specs.declared.turn.Final.{Final}
use Rattle.rkt_router.specs.declared.turn.Final.TheVariants.{Done, FailedTurn, Starved}
use Rattle.rkt_router.proofs.Alike.{next_alike}
use Rattle.rkt_router.proofs.NextTries.{nexts_are_front, nexts_are_tries}
use Rattle.rkt_router.proofs.OneList.{one_tries}
use Rattle.rkt_routing.specs.Relations.{Relations}
use Rattle.rkt_routing.specs.Routed.{Finds, Goes, RouteCall, TriesRoutes, mounted}
use Rattle.rkt_routing.specs.Invariant.{Follows}
use Rattle.rkt_routing.specs.Table.{SeenTable}
use Rattle.rkt_routing.specs.WalkOrder.{AreCallsOf, AreWalksInOrder, IsForward, WalksInOrder}
use Rattle.rkt_routing.specs.declared.run.Call.{Call}
use Rattle.rkt_routing.specs.declared.run.Which.{Which}
use Rattle.rkt_routing.specs.declared.run.Which.TheVariants as which

module _ {V B C S H HTask K KTask N : Type 0} (rel : Relations V B C S H HTask K KTask) (table : SeenTable H K N) (then_ : Reply S B → Seen V → Kept C → List Call → Type 0) (first : Seen V) where
  -- what a walk calls of the routes behind a position, of a request that is tried as this one
  record WalksOn (behind : Option ℕ) (calls : List Call) : Type 0 where
    walked : List Call
    others : List Call
    both : calls ≡ walked ++ others
    tried : List ℕ
    are_calls : AreCallsOf tried walked
    next : NextTries table.router.routes first behind tried
    outcome : Reply S B
    request : Seen V
    kept : Kept C
    follows : then_ outcome request kept others
    whole : IsForward outcome → AllNextTries table.router.routes first behind tried

  -- no route is left
  ends : (behind : Option ℕ) (at : RequestAt V B C) (status : Status) (calls : List Call) → IsNextTry table.router.routes first behind None → then_ (Forward (at.body, status)) at.request at.kept calls
      → WalksOn behind calls
  ends behind at status calls none is = record {
    walked = [];
    others = calls;
    both = refl;
    tried = [];
    are_calls = refl;
    next = tt;
    outcome = Forward (at.body, status);
    request = at.request;
    kept = at.kept;
    follows = is;
    whole = λ forwarded. none;
  }

  -- a route was called, and did not forward
  stops : (behind : Option ℕ) (position : ℕ) (call : Call) (calls : List Call) (outcome : Reply S B) (request : Seen V) (kept : Kept C) → ¬ IsForward outcome
      → IsNextTry table.router.routes first behind (Some position) → call.which ≡ which.Route position → then_ outcome request kept calls → WalksOn behind (call ∷ calls)
  stops behind position call calls outcome request kept other next call_is is = record {
    walked = call ∷ [];
    others = calls;
    both = refl;
    tried = position ∷ [];
    are_calls = ap (λ (w : Which). w ∷ []) call_is;
    next = (next, tt);
    outcome = outcome;
    request = request;
    kept = kept;
    follows = is;
    whole = λ forwarded. absurd (other forwarded);
  }

  -- a route was called, and forwarded
  goes_on : (behind : Option ℕ) (position : ℕ) (call : Call) (calls : List Call) → IsNextTry table.router.routes first behind (Some position) → call.which ≡ which.Route position
      → WalksOn (Some position) calls → WalksOn behind (call ∷ calls)
  goes_on behind position call calls next call_is rest = record {
    walked = call ∷ rest.walked;
    others = rest.others;
    both = ap (λ (cs : List Call). call ∷ cs) rest.both;
    tried = position ∷ rest.tried;
    are_calls = ap₂ (λ (w : Which) (ws : List Which). w ∷ ws) call_is rest.are_calls;
    next = (next, rest.next);
    outcome = rest.outcome;
    request = rest.request;
    kept = rest.kept;
    follows = rest.follows;
    whole = λ forwarded. (next, rest.whole forwarded);
  }

  -- where the reply of a route leads
  replied : (behind : Option ℕ) (position : ℕ) (call : Call) (calls : List Call) (reply : Final (Reply S B)) (request : Seen V) (after : Kept C)
      → IsNextTry table.router.routes first behind (Some position) → call.which ≡ which.Route position
      → (on : B → Status → Type 0) → ((body : B) (status : Status) → on body status → WalksOn (Some position) calls)
      → Goes reply on (λ outcome. then_ outcome request after calls) → WalksOn behind (call ∷ calls)
  replied behind position call calls (Done (Success response)) request after next call_is on walks goes = stops behind position call calls (Success response) request after (λ no. no) next call_is goes
  replied behind position call calls (Done (Error status)) request after next call_is on walks goes = stops behind position call calls (Error status) request after (λ no. no) next call_is goes
  replied behind position call calls (Done (Forward back)) request after next call_is on walks goes = goes_on behind position call calls next call_is (walks back.0 back.1 goes)
  replied behind position call calls FailedTurn request after next call_is on walks goes = stops behind position call calls (Error (record { code = 500 })) request after (λ no. no) next call_is goes
  replied behind position call calls Starved request after next call_is on walks goes = absurd goes

  alike_mounted : (request : Seen V) (route : Route H N) (position : ℕ) → TriedAlike request first → TriedAlike (mounted request route position) first
  alike_mounted request route position alike = record { method = alike.method; uri = alike.uri; headers = alike.headers }

  -- one call of a walk
  walks_one : (behind : Option ℕ) (at : RequestAt V B C) (status : Status) (call : Call) (calls : List Call) (next : Option ℕ) → TriedAlike at.request first
      → IsNextTry table.router.routes at.request behind next
      → ((behind : Option ℕ) (at : RequestAt V B C) (status : Status) → TriedAlike at.request first → TriesRoutes rel table behind at status calls then_ → WalksOn behind calls)
      → MatchOption next (then_ (Forward (at.body, status)) at.request at.kept (call ∷ calls)) (λ position.
      (reply : Final (Reply S B)) × (after : Kept C) × (call_is : RouteCall rel table position at call reply after)
      × Goes reply (λ body status'. TriesRoutes rel table (Some position) (record { request = mounted at.request call_is.route position; body = body; kept = after }) status' calls then_)
      (λ outcome. then_ outcome (mounted at.request call_is.route position) after calls))
      → WalksOn behind (call ∷ calls)
  walks_one behind at status call calls None alike next more is = ends behind at status (call ∷ calls) (next_alike table.router.routes at.request first alike behind None next) is
  walks_one behind at status call calls (Some position) alike next more is =
      replied behind position call calls is.0 (mounted at.request is.2.route position) is.1 (next_alike table.router.routes at.request first alike behind (Some position) next) (ap (λ (c : Call). c.which) is.2.kept_as) _
      (λ body status'. more (Some position) (record { request = mounted at.request is.2.route position; body = body; kept = is.1 }) status' (alike_mounted at.request is.2.route position alike)) is.3

  walks_on : (behind : Option ℕ) (at : RequestAt V B C) (status : Status) (calls : List Call) → TriedAlike at.request first → TriesRoutes rel table behind at status calls then_ → WalksOn behind calls
  walks_on behind at status [] alike walks = ends behind at status [] (next_alike table.router.routes at.request first alike behind None walks.0) walks.1
  walks_on behind at status (call ∷ calls) alike walks =
      walks_one behind at status call calls walks.0 alike walks.1 (λ behind' at' status' alike' walks'. walks_on behind' at' status' calls alike' walks') walks.2

  in_order_of : (tries : List ℕ) → IsTries table.router.routes first tries → (calls : List Call) → WalksOn None calls → WalksInOrder tries calls then_
  in_order_of tries is calls on = record {
    walked = on.walked;
    others = on.others;
    both = on.both;
    tried = on.tried;
    are_calls = on.are_calls;
    front = nexts_are_front table.router.routes first on.tried tries on.next is;
    outcome = on.outcome;
    request = on.request;
    kept = on.kept;
    follows = on.follows;
    whole = λ forwarded. one_tries table.router.routes first on.tried tries ((nexts_are_tries table.router.routes first on.tried).0 (on.whole forwarded)) is;
  }

module _ {V B C S H HTask K KTask N : Type 0} (rel : Relations V B C S H HTask K KTask) (table : SeenTable H K N) where
  -- whatever follows a walk
  pub in_order : (at : RequestAt V B C) (status : Status) (calls : List Call) (then_ : Reply S B → Seen V → Kept C → List Call → Type 0) (tries : List ℕ) → IsTries table.router.routes at.request tries
      → TriesRoutes rel table None at status calls then_ → WalksInOrder tries calls then_
  in_order at status calls then_ tries is walks = in_order_of rel table then_ at.request tries is calls (walks_on rel table then_ at.request None at status calls (record { method = refl; uri = refl; headers = refl }) walks)

  pub all_in_order : AreWalksInOrder rel table
  all_in_order at status calls again found tries is walks = in_order at status calls (Follows rel table again (Finds found)) tries is walks
