use Rattle.std.proofs.Common.{◌∙◌}
use Rattle.rkt_media.proofs.accept.Accept.parse.Goals as goal

pub returns-in-Some-clause-complete : goal.returns-in-Some-clause-complete
returns-in-Some-clause-complete c = λ entries h. absurd (c.in-Some.ensures.some.outside (entries, h))

pub returns-in_ok-read-in-None-clause-accepted : goal.returns-in_ok-read-in-None-clause-accepted
returns-in_ok-read-in-None-clause-accepted c = let list = c.in-None.ensures.none in (list.1.0, list.1.1, c.in_ok-read-in-None.ensures list.0 list.1 ∙ list.1.2)
