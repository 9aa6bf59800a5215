use Rattle.rkt_ignition.proofs.Meeting.{one_catches}
use Rattle.rkt_ignition.proofs.laws.at_most_one_catches.Goals as goal

pub returns : goal.returns
returns g c = one_catches c.args._router.now.catchers c.requires.free.catchers
