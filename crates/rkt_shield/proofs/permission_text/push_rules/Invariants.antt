use Rattle.std.proofs.Common.{◌≡◌, ◌++◌, codes}
use Rattle.rkt_shield.specs.Permission.{rule_text, permission_text}
use Rattle.rkt_shield.proofs.Joins.{others_text}
use Rattle.rkt_shield.proofs.permission_text.push_rules.Given as goal

abbrev pub invariant-loop-feature : goal.invariant-loop-feature
invariant-loop-feature l = l.text ++ others_text rule_text (codes ", ") l.feature-iterator ≡ l.fn.text ++ permission_text l.fn.permission
