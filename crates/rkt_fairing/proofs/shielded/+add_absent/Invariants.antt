use Rattle.std.proofs.Common.{length}
use Rattle.rkt_fairing.proofs.shielded.+add_absent.Given as goal

abbrev pub decreases-add_absent : goal.decreases-add_absent
decreases-add_absent g l = length l.headers.now
