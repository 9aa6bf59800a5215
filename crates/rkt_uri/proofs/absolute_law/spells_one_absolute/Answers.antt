use Rattle.rkt_uri.proofs.Absolutes.{one_absolute}
use Rattle.rkt_uri.proofs.absolute_law.spells_one_absolute.Goals as goal

pub returns : goal.returns
returns c = one_absolute
