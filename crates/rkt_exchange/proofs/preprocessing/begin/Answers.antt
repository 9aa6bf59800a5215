use Rattle.std.proofs.Common.{refl, sym}
use Rattle.rkt_exchange.proofs.preprocessing.begin.Goals as goal

pub returns : goal.returns
returns g c = record { begins = (c.in_ok-fairing.fairing.now, sym c.in_ok-fairing.ensures.found, refl, refl, c.start.ensures) }
