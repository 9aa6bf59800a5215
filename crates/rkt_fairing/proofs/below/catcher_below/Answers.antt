use Rattle.std.proofs.Common.{◌≡◌, ◌++◌, rules, subst, sym}
use Rattle.std.specs.Prelude.{string_bytes}
use Rattle.rkt_uri.specs.Origin.{IsOrigin}
use Rattle.rkt_uri.specs.declared.origin_place.Profile.TheVariants.{Request}
use Rattle.rkt_fairing.proofs.Moved.{moved_catcher, was_refused}
use Rattle.rkt_fairing.proofs.Invariant.{stands_behind}
use Rattle.rkt_fairing.proofs.below.catcher_below.Goals as goal

pub returns-in-Ok : goal.returns-in-Ok
returns-in-Ok g c =
    let moves = c.in-Ok.ensures.accepted in
    moved_catcher c.says_what_it_spells.ensures c.args.catcher c.args.base.now.path _ _ (search (rules, moves.1)) moves.2

pub unreachable-requires : goal.unreachable-requires
unreachable-requires g c =
    let refused = was_refused _ _ _ c.in-Err-Refused.field-0-is c.in-Err-Refused.ensures.refused in
    let text : string_bytes refused.0 ≡ c.args.base.now.path ++ c.args.catcher.base.path = search (rules, refused.1) in
    refused.2.outside (subst (IsOrigin Request) (sym text) (stands_behind c.args.base.now c.args.catcher.base c.origin.ensures.fits c.origin-2.ensures.fits))
