use Rattle.rkt_worker.proofs.Handings.{shuts_so}
use Rattle.rkt_worker.proofs.sending.shut.Goals as goal

pub returns : goal.returns
returns g c saw cut at = shuts_so g.K.Link.meaning g.K.Shut.shuts g.met.K.Link.shutdown_keeps c.args.gate c.args.io.now c.poll_with.new.self _ _ saw cut at c.poll_with.result c.poll_with.ensures.machine
