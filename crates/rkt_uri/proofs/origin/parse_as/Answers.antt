use Rattle.std.proofs.Common.{◌∙◌, refl}
use Rattle.rkt_uri.proofs.OriginLemmas.{target_said, accepted_as}
use Rattle.rkt_uri.proofs.origin.parse_as.Goals as goal

pub returns-in_ok-read-in-None-clause-accepted : goal.returns-in_ok-read-in-None-clause-accepted
returns-in_ok-read-in-None-clause-accepted c = accepted_as _ _ _ _ refl c.in-None.ensures.none c.in_ok-read-in-None.ensures

pub returns-in_ok-read-in-None-clause-complete : goal.returns-in_ok-read-in-None-clause-complete
returns-in_ok-read-in-None-clause-complete c = λ o spelled. c.in_ok-read-in-None.ensures ∙ target_said _ _ o spelled
