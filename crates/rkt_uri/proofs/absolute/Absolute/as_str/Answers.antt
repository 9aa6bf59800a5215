use Rattle.std.proofs.Common.{sym, subst}
use Rattle.rkt_uri.specs.Absolute.{IsAbsolute}
use Rattle.rkt_uri.proofs.absolute.Absolute.as_str.Goals as goal

pub returns-clause-absolute : goal.returns-clause-absolute
returns-clause-absolute c = subst IsAbsolute (sym c.as_str.ensures) c.self.invariant
