use Rattle.std.proofs.Common.{◌+◌}
use Rattle.rkt_fairing.proofs.lists.Lists.admit.Goals as goal

pub push-requires-2 : goal.push-requires-2
push-requires-2 g c = c.supersede.ensures.room 1 c.requires

pub returns-clause-room : goal.returns-clause-room
returns-clause-room g c = λ more room. c.push-2.ensures.room more (c.supersede.ensures.room (more + 1) room)
