use Rattle.std.proofs.Common.{rules, arith, ◌≡◌, ◌<◌, ◌≤◌, length, is_none, true, false}
use Rattle.std.proofs.lemmas.Grind.{common_steps}
use Rattle.rkt_board.proofs.Entries.{entered, noted_before, noted_nowhere}
use Rattle.rkt_board.proofs.history.enter_first.Goals.{else-at-len-via-then-at-len+else-is_none, else-at-len-via-else-at-len}
use Rattle.rkt_board.proofs.history.enter_first.Goals as goal

pub returns-then-is_none : goal.returns-then-is_none
returns-then-is_none g c =
    let within : c.args.at < length c.args.entries.now.items = first_of (search rules, grind (arith, common_steps)) in
    let none : is_none c.index.result.now ≡ true = first_of (search rules, grind (arith, common_steps)) in
    entered c.args.entries.now.items c.args.at c.index.result.now c.args.entry within c.index.ensures none

pub returns-else-at-len : goal.returns-else-at-len
returns-else-at-len g c =
    elim c.else-at-len.branch [
      | else-at-len-via-then-at-len+else-is_none w ↦
          let within : c.args.at < length c.args.entries.now.items = first_of (search rules, grind (arith, common_steps)) in
          let some : is_none w.index.result.now ≡ false = first_of (search rules, grind (arith, common_steps)) in
          noted_before c.args.entries.now.items c.args.at w.index.result.now c.args.entry.now within w.index.ensures some
      | else-at-len-via-else-at-len w ↦
          let past : length c.args.entries.now.items ≤ c.args.at = first_of (search rules, grind (arith, common_steps)) in
          noted_nowhere c.args.entries.now.items c.args.at c.args.entry.now past
    ]
