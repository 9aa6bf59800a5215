use Rattle.std.proofs.Common.{rules}
use Rattle.rkt_sample.proofs.Moved.{base_stands, moved_catcher}
use Rattle.rkt_sample.proofs.mounted.catcher_below.Goals as goal

pub unreachable-requires : goal.unreachable-requires
unreachable-requires c =
    let leaves = rw c.in-Err-Refused.field-0-is at c.in-Err-Refused.ensures.refused in
    base_stands c.args.base.now _ _ (search (rules, leaves.1)) c.requires leaves.2

pub returns-in-Ok-map_base : goal.returns-in-Ok-map_base
returns-in-Ok-map_base c =
    let moves = c.in-Ok-map_base.ensures.accepted in
    moved_catcher c.says_what_it_spells.ensures c.args.catcher c.args.base.now _ _ (search (rules, moves.1)) moves.2
