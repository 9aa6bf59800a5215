use Rattle.rkt_data.proofs.CountedSources.{peeked_pulls}
use Rattle.rkt_data.proofs.data.peeked_pulls.Goals as goal

pub returns : goal.returns
returns g c = peeked_pulls g.S.Source.meaning
