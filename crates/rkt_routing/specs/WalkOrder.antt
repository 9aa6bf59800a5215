-- Which routes the calls of a walk are of.
use Rattle.std.specs.Prelude.{◌≡◌, ◌++◌, ℕ, Bool, List, None, map, ⊤}
use Rattle.rkt_grammar.specs.Grammar.{IsFrontOf}
use Rattle.rkt_http.specs.declared.outcome.Outcome.TheVariants.{Success, Error, Forward}
use Rattle.rkt_http.specs.declared.status.Status.{Status}
use Rattle.rkt_request.specs.Lent.{Kept}
use Rattle.rkt_request.specs.Seen.{Seen}
use Rattle.rkt_router.specs.Callbacks.{Reply, RequestAt}
use Rattle.rkt_router.specs.Tries.{IsTries}
use Rattle.rkt_routing.specs.Found.{Found}
use Rattle.rkt_routing.specs.Relations.{Relations}
use Rattle.rkt_routing.specs.Routed.{Finds, TriesRoutes}
use Rattle.rkt_routing.specs.Invariant.{Follows}
use Rattle.rkt_routing.specs.Table.{SeenTable}
use Rattle.rkt_routing.specs.declared.run.Call.{Call}
use Rattle.rkt_routing.specs.declared.run.Which.TheVariants as which

-- V is the type of managed values, B that of bodies, C that of cached values, S that of streams

abbrev pub IsForward : {S B : Type 0} → Reply S B → Type 0
IsForward (Success response) = ⊥
IsForward (Error status) = ⊥
IsForward (Forward back) = ⊤

-- these calls are of the routes at these positions, in order
abbrev pub AreCallsOf : List ℕ → List Call → Type 0
AreCallsOf positions calls = map (λ call. call.which) calls ≡ map which.Route positions

-- The first of these calls are a walk's: they are of a front of the tries, and of all of them where the walk forwarded. Its
-- outcome, the request and what the callbacks left lead on to the other calls.
pub record WalksInOrder {V B C S : Type 0} (tries : List ℕ) (calls : List Call)
    (then_ : Reply S B → Seen V → Kept C → List Call → Type 0) : Type 0 where
  pub walked : List Call
  pub others : List Call
  pub both : calls ≡ walked ++ others
  pub tried : List ℕ
  pub are_calls : AreCallsOf tried walked
  pub front : IsFrontOf tried tries
  pub outcome : Reply S B
  pub request : Seen V
  pub kept : Kept C
  pub follows : then_ outcome request kept others
  pub whole : IsForward outcome → tried ≡ tries

-- Each walk over these routes is in order, whatever is found behind it: the first one of a request, and that of a HEAD request
-- which is walked once more.
abbrev pub AreWalksInOrder : {V B C S H HTask K KTask N : Type 0} → Relations V B C S H HTask K KTask → SeenTable H K N → Type 0
AreWalksInOrder {V = V} {B = B} {C = C} {S = S} rel table =
    (at : RequestAt V B C) (status : Status) (calls : List Call) (again : Bool) (found : Found V C S) (tries : List ℕ)
    → IsTries table.router.routes at.request tries
    → TriesRoutes rel table None at status calls (Follows rel table again (Finds found))
    → WalksInOrder tries calls (Follows rel table again (Finds found))
