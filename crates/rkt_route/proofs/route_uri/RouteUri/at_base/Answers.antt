use Rattle.std.proofs.Common.{◌∙◌, ap, subst}
use Rattle.std.proofs.lemmas.Result.{IfOk-weaker}
use Rattle.rkt_uri.specs.Origin.{IsTarget, spelling}
use Rattle.rkt_uri.specs.declared.origin_place.Profile.TheVariants.{Route}
use Rattle.rkt_route.specs.RouteUri.{MountedUri, SpellsMounted, IsRebased}
use Rattle.rkt_route.proofs.Mounted.{rebased, rebased_spells}
use Rattle.rkt_route.proofs.route_uri.RouteUri.at_base.Goals as goal

pub returns-clause-accepted : goal.returns-clause-accepted
returns-clause-accepted c =
    let same = ap (λ (u : MountedUri). u.unmounted) c.self.view_is in
    let fits : IsTarget Route c.args.self.now.unmounted = subst (IsTarget Route) same c.self.invariant.unmounted_fits in
    let text = c.as_str.ensures ∙ ap spelling same in
    IfOk-weaker c.try_new.result (SpellsMounted c.args.base.now c.as_str.result.now) (IsRebased c.args.self.now c.args.base.now)
    (λ m spelled. rebased c.says_what_it_spells.ensures c.args.self.now c.args.base.now c.as_str.result.now m fits text spelled) c.try_new.ensures.accepted

pub returns-clause-complete : goal.returns-clause-complete
returns-clause-complete c = λ m again.
    let same = ap (λ (u : MountedUri). u.unmounted) c.self.view_is in
    let fits : IsTarget Route c.args.self.now.unmounted = subst (IsTarget Route) same c.self.invariant.unmounted_fits in
    c.try_new.ensures.complete m (rebased_spells c.args.self.now c.args.base.now c.as_str.result.now m fits (c.as_str.ensures ∙ ap spelling same) again)
