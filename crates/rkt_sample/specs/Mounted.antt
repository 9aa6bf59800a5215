-- Where the routes and the catchers of the sample stand, in their order.
use Rattle.std.specs.Prelude.{ℕ, ℤ, pos, List, [], ◌∷◌, Option, Some, None, codes, map}
use Rattle.rkt_http.specs.declared.method.Method.{Method}
use Rattle.rkt_http.specs.declared.method.Method.TheVariants.{Get, Head, Post, Delete}
use Rattle.rkt_route.specs.Catcher.{catcher_at_root}
use Rattle.rkt_route.specs.Route.{route_at}
use Rattle.rkt_route.specs.RouteUri.{mounted_at, path_alone, root}
use Rattle.rkt_route.specs.declared.catcher.Catcher.{Catcher}
use Rattle.rkt_route.specs.declared.catcher.Catching.TheVariants.{App}
use Rattle.rkt_route.specs.declared.route.Route.{Route}
use Rattle.rkt_uri.specs.Origin.{normalized, target_of}
use Rattle.rkt_sample.specs.declared.catcher.SampleCatcher.{SampleCatcher}
use Rattle.rkt_sample.specs.declared.catcher.SampleCatcher.TheVariants as catcher
use Rattle.rkt_sample.specs.declared.route.SampleRoute.{SampleRoute}
use Rattle.rkt_sample.specs.declared.route.SampleRoute.TheVariants as route

abbrev pub method_of : SampleRoute → Method
method_of route.Hello = Get
method_of route.Page = Get
method_of route.HeadPage = Head
method_of route.HeadGone = Head
method_of route.PostForm = Post
method_of route.DeleteForm = Delete
method_of route.Trial = Get
method_of route.Tried = Get
method_of route.Spoiled = Get
method_of route.Flash = Get
method_of route.Echo = Post
method_of route.Stop = Get
method_of route.Broken = Get

-- the base, and the path behind it
abbrev pub base_of : SampleRoute → List ℕ
base_of route.Hello = codes "/hello"
base_of _ = codes "/"

abbrev pub path_of : SampleRoute → List ℕ
path_of route.Hello = codes "/<name>/<age>"
path_of route.Page = codes "/page"
path_of route.HeadPage = codes "/page"
path_of route.HeadGone = codes "/gone"
path_of route.PostForm = codes "/form"
path_of route.DeleteForm = codes "/form"
path_of route.Trial = codes "/trial"
path_of route.Tried = codes "/trial"
path_of route.Spoiled = codes "/spoiled"
path_of route.Flash = codes "/flash"
path_of route.Echo = codes "/echo"
path_of route.Stop = codes "/stop"
path_of route.Broken = codes "/broken"

-- the rank, where it is not the default one
abbrev pub rank_of : SampleRoute → Option ℤ
rank_of route.Trial = Some (pos 1)
rank_of route.Tried = Some (pos 2)
rank_of _ = None

-- a route at the base `/`, and below another one
abbrev pub route_at_root : SampleRoute → Route SampleRoute (Unit {0})
route_at_root route = route_at (rank_of route) (method_of route) route (mounted_at root (target_of (path_of route)))

abbrev pub route_below : List ℕ → Route SampleRoute (Unit {0}) → Route SampleRoute (Unit {0})
route_below base route = record route { uri = mounted_at (target_of base) route.uri.unmounted }

abbrev pub mounted_route : SampleRoute → Route SampleRoute (Unit {0})
mounted_route route = route_below (base_of route) (route_at_root route)

abbrev pub all_routes : List SampleRoute
all_routes =
    route.Hello ∷ route.Page ∷ route.HeadPage ∷ route.HeadGone ∷ route.PostForm ∷ route.DeleteForm ∷ route.Trial ∷ route.Tried
    ∷ route.Spoiled ∷ route.Flash ∷ route.Echo ∷ route.Stop ∷ route.Broken ∷ []

-- the routes, in mounting order
abbrev pub sample_routes : List (Route SampleRoute (Unit {0}))
sample_routes = map mounted_route all_routes

abbrev pub catch_base_of : SampleCatcher → List ℕ
catch_base_of catcher.NotFound = codes "/a"
catch_base_of catcher.Default = codes "/a/b"
catch_base_of catcher.BadNotFound = codes "/bad"
catch_base_of catcher.BadFailed = codes "/bad"

abbrev pub code_of : SampleCatcher → Option ℕ
code_of catcher.NotFound = Some 404
code_of catcher.Default = None
code_of catcher.BadNotFound = Some 404
code_of catcher.BadFailed = Some 500

abbrev pub catcher_below : List ℕ → Catcher SampleCatcher → Catcher SampleCatcher
catcher_below base catcher = record catcher { base = normalized (path_alone (target_of base)) }

abbrev pub mounted_catcher : SampleCatcher → Catcher SampleCatcher
mounted_catcher catcher = catcher_below (catch_base_of catcher) (catcher_at_root None (code_of catcher) (App catcher))

abbrev pub all_catchers : List SampleCatcher
all_catchers = catcher.NotFound ∷ catcher.Default ∷ catcher.BadNotFound ∷ catcher.BadFailed ∷ []

-- the catchers, in the order in which they are registered
abbrev pub sample_catchers : List (Catcher SampleCatcher)
sample_catchers = map mounted_catcher all_catchers
