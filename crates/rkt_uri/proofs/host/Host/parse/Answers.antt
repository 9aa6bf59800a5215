use Rattle.std.proofs.Common.{◌∙◌}
use Rattle.rkt_uri.proofs.Hosts.{spells_said, host_said}
use Rattle.rkt_uri.proofs.host.Host.parse.Goals as goal

pub returns-in_ok-read-in-None-clause-accepted : goal.returns-in_ok-read-in-None-clause-accepted
returns-in_ok-read-in-None-clause-accepted c = spells_said _ _ c.in-None.ensures.none c.in_ok-read-in-None.ensures

pub returns-in_ok-read-in-None-clause-complete : goal.returns-in_ok-read-in-None-clause-complete
returns-in_ok-read-in-None-clause-complete c = λ h spelled. c.in_ok-read-in-None.ensures ∙ host_said _ h spelled
