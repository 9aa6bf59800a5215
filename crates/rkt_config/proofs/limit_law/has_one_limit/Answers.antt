use Rattle.rkt_config.proofs.OneLimit.{one_limit}
use Rattle.rkt_config.proofs.limit_law.has_one_limit.Goals as goal

pub returns : goal.returns
returns c = one_limit
