use Rattle.std.proofs.Common.{◌++◌, ◌∙◌, List, ap, arith, refl}
use Rattle.std.proofs.lemmas.Grind.{common_steps}
use Rattle.rkt_ignition.proofs.Adding.{all_added, one_added}
use Rattle.rkt_ignition.proofs.routed.add_routes.Goals as goal

pub loop-route-init : goal.loop-route-init
loop-route-init g c = (ap (λ (l : List _). c.args.router.now.routes ++ l) c.into_iter-route-iterator.ensures.into_iter_gives.0, refl)

pub loop-route-preserved : goal.loop-route-preserved
loop-route-preserved g c = (
  one_added _ _ _ _ _ c.in-Some.route c.loop-route.invariant.0 c.in-Some.ensures.steps.0 (ap (λ r. r.routes) c.in_ok-add_route.ensures.ok),
  ap (λ r. r.catchers) c.in_ok-add_route.ensures.ok ∙ c.loop-route.invariant.1,
)

pub returns : goal.returns
returns g c =
    ap (λ (l : List _). record { routes = l; catchers = c.loop-route.router.catchers }) (all_added _ _ _ c.loop-route.invariant.0 (grind (arith, common_steps, c.in-None.ensures.steps)))
    ∙ ap (λ (l : List _). record { routes = c.args.router.now.routes ++ c.args.routes.items; catchers = l }) c.loop-route.invariant.1
