use Rattle.std.proofs.Common.{sym, subst}
use Rattle.rkt_uri.specs.FileNames.{GoesDown}
use Rattle.rkt_uri.proofs.path_buf.PathBuf.as_str.Goals as goal

pub returns-clause-down : goal.returns-clause-down
returns-clause-down c = subst GoesDown (sym c.as_str.ensures) c.self.invariant
