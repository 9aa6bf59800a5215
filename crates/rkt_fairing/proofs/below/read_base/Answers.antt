use Rattle.std.proofs.Common.{sym}
use Rattle.rkt_fairing.proofs.below.read_base.Goals as goal

pub returns-in-Ok-clause-spelled : goal.returns-in-Ok-clause-spelled
returns-in-Ok-clause-spelled c = sym (c.says_what_it_spells.ensures _ _ _ c.in-Ok.ensures.accepted)
