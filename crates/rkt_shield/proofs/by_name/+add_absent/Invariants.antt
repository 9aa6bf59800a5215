use Rattle.std.proofs.Common.{length}
use Rattle.rkt_shield.proofs.by_name.+add_absent.Given as goal

abbrev pub decreases-add_absent : goal.decreases-add_absent
decreases-add_absent l = length l.headers.now
