use Rattle.rkt_fairing.proofs.Flags.{flags_decide}
use Rattle.rkt_fairing.proofs.kind.Kind.is.Goals as goal

pub returns : goal.returns
returns c = rw (← c.bitor.ensures) (flags_decide c.bitor.result c.args.self c.eq.result c.eq.ensures)
