use Rattle.std.proofs.Common.{refl, subst}
use Rattle.rkt_base.specs.Want.{GivesUnlessNoMemory}
use Rattle.rkt_route.specs.RouteUri.{MountedUri, SpellsMounted, mounted_at}
use Rattle.rkt_route.proofs.Mounted.{mounted_alike}
use Rattle.rkt_route.proofs.route_uri.RouteUri.try_new.Goals as goal

pub returns-clause-complete : goal.returns-clause-complete
returns-clause-complete c = λ m spelled.
    let here : MountedUri = mounted_at c.in_ok-base.base c.in_ok-unmounted.unmounted in
    let accepted : SpellsMounted c.args.base.now c.args.uri.now here = record {
      base_target = c.in_ok-base.base;
      uri_target = c.in_ok-unmounted.unmounted;
      base_spelled = c.in_ok-base.ensures.accepted;
      uri_spelled = c.in_ok-unmounted.ensures.accepted;
      joined = refl;
    } in
    subst (λ (n : MountedUri). GivesUnlessNoMemory c.mounted.result n) (mounted_alike c.says_what_it_spells.ensures c.args.base.now c.args.uri.now here m accepted spelled) c.mounted.ensures
