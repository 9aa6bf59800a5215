use Rattle.std.proofs.Common.{map}
use Rattle.rkt_ignition.specs.Reached.{node_of}
use Rattle.rkt_ignition.proofs.Closed.{reached_closed}
use Rattle.rkt_ignition.proofs.laws.reached_is_closed.Goals as goal

pub returns : goal.returns
returns g c = reached_closed (map node_of c.args._sentries.now)
