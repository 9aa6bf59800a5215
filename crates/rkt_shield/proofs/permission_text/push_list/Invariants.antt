use Rattle.std.proofs.Common.{◌≡◌, ◌++◌, codes, drop}
use Rattle.std.specs.List.{join_by}
use Rattle.rkt_shield.specs.Allow.{allow_text}
use Rattle.rkt_shield.proofs.Joins.{others_text}
use Rattle.rkt_shield.proofs.permission_text.push_list.Given as goal

abbrev pub invariant-loop-next : goal.invariant-loop-next
invariant-loop-next l = l.text ++ others_text allow_text (codes " ") (drop l.next-index l.others) ≡ l.fn.text ++ join_by allow_text (codes " ") l.fn.allow
