use Rattle.rkt_uri.proofs.OriginLemmas.{target_said}
use Rattle.rkt_uri.proofs.origin_law.says_what_it_spells.Goals as goal

pub returns : goal.returns
returns c = target_said
