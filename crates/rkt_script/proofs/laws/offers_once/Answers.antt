use Rattle.rkt_script.proofs.Offered.{offers_one}
use Rattle.rkt_script.proofs.laws.offers_once.Goals as goal

pub returns : goal.returns
returns c = offers_one
