use Rattle.std.proofs.Common.{◌++◌, ◌∙◌, List, ap, arith, refl}
use Rattle.std.proofs.lemmas.Grind.{common_steps}
use Rattle.rkt_ignition.proofs.Adding.{all_added, one_added}
use Rattle.rkt_ignition.proofs.routed.add_catchers.Goals as goal

pub loop-catcher-init : goal.loop-catcher-init
loop-catcher-init g c = (ap (λ (l : List _). c.args.router.now.catchers ++ l) c.into_iter-catcher-iterator.ensures.into_iter_gives.0, refl)

pub loop-catcher-preserved : goal.loop-catcher-preserved
loop-catcher-preserved g c = (
  one_added _ _ _ _ _ c.in-Some.catcher c.loop-catcher.invariant.0 c.in-Some.ensures.steps.0 (ap (λ r. r.catchers) c.in_ok-add_catcher.ensures.ok),
  ap (λ r. r.routes) c.in_ok-add_catcher.ensures.ok ∙ c.loop-catcher.invariant.1,
)

pub returns : goal.returns
returns g c =
    ap (λ (l : List _). record { routes = c.loop-catcher.router.routes; catchers = l }) (all_added _ _ _ c.loop-catcher.invariant.0 (grind (arith, common_steps, c.in-None.ensures.steps)))
    ∙ ap (λ (l : List _). record { routes = l; catchers = c.args.router.now.catchers ++ c.args.catchers.items }) c.loop-catcher.invariant.1
