use Rattle.std.proofs.Common.{rules}
use Rattle.rkt_worker.proofs.Handings.{hands_over}
use Rattle.rkt_worker.proofs.sending.hand_over.Goals as goal

pub returns : goal.returns
returns g c =
    hands_over g.K.Link.meaning g.K.Shut.shuts g.met.K.Link.shutdown_keeps c.args.gate c.args.io.now c.args.piece c.poll_with.new.self _ _ c.poll_with.result c.poll_with.ensures.machine (λ r p q met. search rules)
