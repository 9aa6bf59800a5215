use Rattle.std.proofs.Common.{◌∙◌, ℕ, List, Option, ap, codes, subst, sym, ℤ}
use Rattle.rkt_http.specs.declared.method.Method.{Method}
use Rattle.rkt_route.specs.Route.{route_at}
use Rattle.rkt_route.specs.RouteUri.{SpellsMounted, mounted_at, root}
use Rattle.rkt_uri.specs.Origin.{target_of}
use Rattle.rkt_sample.specs.Mounted.{path_of, rank_of}
use Rattle.rkt_sample.proofs.Spelled.{path_spelled}
use Rattle.rkt_sample.proofs.route.SampleRoute.at_root.Goals as goal

pub unreachable-requires : goal.unreachable-requires
unreachable-requires c =
    let uri = mounted_at root (target_of (path_of c.args.self)) in
    let spelled = subst (λ (path : List ℕ). SpellsMounted (codes "/") path uri) (sym c.path.ensures) (path_spelled c.args.self) in
    let complete = rw c.in-Err-Refused.field-0-is at c.in-Err-Refused.ensures.complete in
    cc (complete uri spelled)

pub returns-in-Ok : goal.returns-in-Ok
returns-in-Ok c =
    let uri = mounted_at root (target_of (path_of c.args.self)) in
    let spelled = subst (λ (path : List ℕ). SpellsMounted (codes "/") path uri) (sym c.path.ensures) (path_spelled c.args.self) in
    c.in-Ok.ensures.complete uri spelled
    ∙ ap (λ (rank : Option ℤ). route_at rank c.method.result c.args.self uri) c.rank.ensures
    ∙ ap (λ (method : Method). route_at (rank_of c.args.self) method c.args.self uri) c.method.ensures
