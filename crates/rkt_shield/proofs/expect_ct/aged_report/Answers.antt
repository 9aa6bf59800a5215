use Rattle.std.proofs.Common.{append_assoc, rules}
use Rattle.rkt_shield.proofs.expect_ct.aged_report.Goals as goal

pub returns : goal.returns
returns c = simp append_assoc (search rules)
