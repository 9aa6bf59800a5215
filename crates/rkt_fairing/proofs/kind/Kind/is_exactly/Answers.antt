use Rattle.rkt_fairing.proofs.Flags.{flags_decide}
use Rattle.rkt_fairing.proofs.kind.Kind.is_exactly.Goals as goal

pub returns : goal.returns
returns c = flags_decide c.args.self c.args.other c.eq.result c.eq.ensures
