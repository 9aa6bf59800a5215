use Rattle.std.proofs.Common.{ap}
use Rattle.rkt_ignition.proofs.igniting.made.Goals as goal

pub joined-requires-clause-config : goal.joined-requires-clause-config
joined-requires-clause-config g c = rw (ap (λ b. b.table) c.building.view_is) at c.in-Ok.ensures.config

pub joined-requires-clause-accepted : goal.joined-requires-clause-accepted
joined-requires-clause-accepted g c = rw (ap (λ b. b.table) c.building.view_is) at c.in-Ok.ensures.accepted

pub returns-in-Ok-clause-ok : goal.returns-in-Ok-clause-ok
returns-in-Ok-clause-ok g c = c.joined.ensures.ok

pub returns-in-Ok-clause-refused : goal.returns-in-Ok-clause-refused
returns-in-Ok-clause-refused g c = c.joined.ensures.refused

pub returns-in-Err-clause-refused : goal.returns-in-Err-clause-refused
returns-in-Err-clause-refused g c = rw (ap (λ b. b.table) c.building.view_is) at c.in-Err.ensures.refused
