-- Routes and catchers below a base: its path stands in front of their own base.
use Rattle.std.specs.Prelude.{◌++◌, ℕ, List}
use Rattle.rkt_uri.specs.Origin.{Target, normalized, target_of}
use Rattle.rkt_route.specs.RouteUri.{mounted_at, path_alone}
use Rattle.rkt_route.specs.declared.catcher.Catcher.{Catcher}
use Rattle.rkt_route.specs.declared.route.Route.{Route}

-- H is the type of handlers, S that of what sentries ask, C that of catchers' handlers

-- what a base's path and the base of an item spell together
abbrev pub joined_base : List ℕ → Target → Target
joined_base path own = target_of (path ++ own.path)

-- all but its place is kept
abbrev pub route_below : {H S : Type 0} → List ℕ → Route H S → Route H S
route_below path route = record route { uri = mounted_at (joined_base path route.uri.base) route.uri.unmounted }

abbrev pub catcher_below : {C : Type 0} → List ℕ → Catcher C → Catcher C
catcher_below path catcher = record catcher { base = normalized (path_alone (joined_base path catcher.base)) }
