use Rattle.rkt_script.proofs.WordLemmas.{commands_once}
use Rattle.rkt_script.proofs.laws.sets_once.Goals as goal

pub returns : goal.returns
returns c = commands_once
