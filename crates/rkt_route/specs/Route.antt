-- What a route is made of.
use Rattle.std.specs.Prelude.{◌≡◌, ℕ, ℤ, List, [], Option, Some, None, unwrap_or}
use Rattle.rkt_http.specs.declared.method.Method.{Method}
use Rattle.rkt_route.specs.RouteUri.{MountedUri, IsRebased, default_rank}
use Rattle.rkt_route.specs.declared.route.Route.{Route}
use Rattle.rkt_route.specs.declared.route.StaticInfo.{StaticInfo}

-- H is the type of handlers, S that of what sentries ask

-- the route of a method and a handler at a URI, of its default rank where none is given
abbrev pub route_at : {H S : Type 0} → Option ℤ → Method → H → MountedUri → Route H S
route_at rank method handler uri = record {
  name = None;
  method = method;
  handler = handler;
  uri = uri;
  rank = unwrap_or rank (default_rank uri.origin);
  format = None;
  sentinels = [];
}

-- the route that static information describes, at its URI
abbrev pub route_of_info : {H S : Type 0} → StaticInfo H S → MountedUri → Route H S
route_of_info info uri = record (route_at info.rank info.method info.handler uri) {
  name = Some info.name.now;
  format = info.format;
  sentinels = info.sentinels;
}

-- a route below another base, which a text spells: all else is kept
pub record IsMovedTo {H S : Type 0} (route : Route H S) (text : List ℕ) (moved : Route H S) : Type 0 where
  pub mounted : IsRebased route.uri text moved.uri
  pub kept : moved ≡ record route { uri = moved.uri }
