use Rattle.std.proofs.Common.{subst, List, ℕ}
use Rattle.std.proofs.lemmas.Result.{IfOk-weaker}
use Rattle.rkt_grammar.specs.Grammar.{LeavesAt}
use Rattle.rkt_uri.specs.Origin.{IsOrigin}
use Rattle.rkt_uri.specs.declared.origin_place.Profile.TheVariants.{Request}
use Rattle.rkt_route.specs.RouteUri.{IsRebased}
use Rattle.rkt_route.proofs.Calls.{IfRefused-weaker, returned_at}
use Rattle.rkt_route.proofs.route_uri.RouteUri.at_mapped.Goals as goal

pub returns-clause-accepted : goal.returns-clause-accepted
returns-clause-accepted g c =
    IfOk-weaker c.at_base.result (IsRebased c.args.self.now c.as_str.result.now) _
    (λ u rebased. (
      c.in_ok-base.base,
      returned_at g.F.FnOnce c.args.mapper c.args.self.now.base c.mapper.result _ _ c.base_origin.ensures.value c.in_ok-base.was c.mapper.ensures,
      subst (λ (text : List ℕ). IsRebased c.args.self.now text u) c.as_str.ensures.value rebased,
    )) c.at_base.ensures.accepted

pub returns-clause-refused : goal.returns-clause-refused
returns-clause-refused g c =
    IfRefused-weaker c.at_base.result (λ e. LeavesAt (IsOrigin Request) c.as_str.result.now e.at) _
    (λ e leaves. (
      c.in_ok-base.base,
      returned_at g.F.FnOnce c.args.mapper c.args.self.now.base c.mapper.result _ _ c.base_origin.ensures.value c.in_ok-base.was c.mapper.ensures,
      subst (λ (text : List ℕ). LeavesAt (IsOrigin Request) text e.at) c.as_str.ensures.value leaves,
    )) c.at_base.ensures.refused
