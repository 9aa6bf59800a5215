use Rattle.rkt_sample.proofs.Ages.{reads_age}
use Rattle.rkt_sample.proofs.laws.param_reads_age.Goals as goal

pub returns : goal.returns
returns c = reads_age
