use Rattle.rkt_source.proofs.Cancels.{cut_after_grace}
use Rattle.rkt_source.proofs.cancel.cuts_after_grace.Goals as goal

pub returns : goal.returns
returns c = cut_after_grace
