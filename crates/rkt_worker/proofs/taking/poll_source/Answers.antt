use Rattle.std.proofs.Common.{rules}
use Rattle.rkt_worker.proofs.Taken.{takes_now}
use Rattle.rkt_worker.proofs.taking.poll_source.Goals as goal

pub returns : goal.returns
returns g c =
    takes_now g.K.Link.meaning g.K.Source.Source.meaning g.K.Shut.shuts c.args.gate c.args.io.now c.poll_with.new.self _ _ c.poll_with.result c.requires.active c.requires.untripped
    c.poll_with.ensures.machine (λ r p q met. search rules)
