use Rattle.std.proofs.Common.{refl, subst, List, ℕ}
use Rattle.rkt_grammar.specs.Grammar.{LeavesAt}
use Rattle.rkt_uri.specs.Origin.{IsOrigin, Spells, Target}
use Rattle.rkt_uri.specs.declared.origin_place.Profile.TheVariants.{Request}
use Rattle.rkt_route.specs.declared.catcher.Catcher.{Catcher}
use Rattle.rkt_route.proofs.Calls.{refused_so_on, returned_at}
use Rattle.rkt_route.proofs.catcher.Catcher.map_base.Goals as goal

pub returns-clause-refused : goal.returns-clause-refused
returns-clause-refused g c =
    refused_so_on Target (Catcher g.row.C.Denot) c.in-Err.error (λ e. LeavesAt (IsOrigin Request) c.as_str.result.now e.at) _
    (λ e leaves. (
      c.in-Ok.text,
      returned_at g.F.FnOnce c.args.mapper c.args.self.base c.mapper.result _ _ c.origin.ensures.value c.in-Ok.is c.mapper.ensures,
      subst (λ (text : List ℕ). LeavesAt (IsOrigin Request) text e.at) c.as_str.ensures.value leaves,
    )) c.in-Err.ensures.refused

pub returns-in-Ok-parse_normal-clause-accepted : goal.returns-in-Ok-parse_normal-clause-accepted
returns-in-Ok-parse_normal-clause-accepted g c =
    let accepted = c.in-Ok-parse_normal.ensures.accepted in (
      c.in-Ok.text,
      returned_at g.F.FnOnce c.args.mapper c.args.self.base c.mapper.result _ _ c.origin.ensures.value c.in-Ok.is c.mapper.ensures,
      record {
        base = accepted.0;
        spelled = subst (λ (text : List ℕ). Spells Request text accepted.0) c.as_str.ensures.value accepted.1;
        kept = rw (c.replace.ensures.after, accepted.2) refl;
      },
    )
