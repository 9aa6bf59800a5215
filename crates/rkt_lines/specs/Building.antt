-- What a call of the builder that takes one part adds, and why it fails.
use Rattle.std.specs.Prelude.{◌≡◌, ⊤, ℕ, List, Option, Some, None}
use Rattle.rkt_fairing.specs.Below.{route_below}
use Rattle.rkt_grammar.specs.Grammar.{LeavesAt}
use Rattle.rkt_http.specs.declared.method.Method.{Method}
use Rattle.rkt_life.specs.declared.build_error.BuildError.{BuildError}
use Rattle.rkt_life.specs.declared.build_error.BuildError.TheVariants.{Code, NoMemory, Uri}
use Rattle.rkt_route.specs.Catcher.{IsErrorCode}
use Rattle.rkt_route.specs.Route.{route_at}
use Rattle.rkt_route.specs.RouteUri.{SpellsMounted, root}
use Rattle.rkt_route.specs.declared.route.Route.{Route}
use Rattle.rkt_uri.specs.Origin.{IsOrigin}
use Rattle.rkt_uri.specs.declared.origin_place.Profile.TheVariants.{Route as RouteText}

-- H is the type of handlers, N that of what sentries ask

-- the route of a method and a handler that a text spells, of the default rank of its path
pub record IsRead {H N : Type 0} (method : Method) (uri : List ℕ) (handler : H) (route : Route H N) : Type 0 where
  pub mounted : SpellsMounted root.path uri route.uri
  pub made : route ≡ route_at None method handler route.uri

-- such a route below `/`
pub record IsRouted {H N : Type 0} (method : Method) (uri : List ℕ) (handler : H) (route : Route H N) : Type 0 where
  pub own : Route H N
  pub read : IsRead method uri handler own
  pub below : route ≡ route_below root.path own

-- the text leaves the grammar of routes at the place that is told, or there is no memory
abbrev pub IsRouteFault : List ℕ → BuildError → Type 0
IsRouteFault uri (Uri error) = LeavesAt (IsOrigin RouteText) uri error.at
IsRouteFault uri NoMemory = ⊤
IsRouteFault uri other = ⊥

-- the code is no error's, or there is no memory
abbrev pub IsCatcherFault : Option ℕ → BuildError → Type 0
IsCatcherFault code (Code error) = (code ≡ Some error.code) × ¬ IsErrorCode error.code
IsCatcherFault code NoMemory = ⊤
IsCatcherFault code other = ⊥
