use Rattle.std.proofs.Common.{refl}
use Rattle.rkt_serve.proofs.launch.rejoined.Goals as goal

pub returns : goal.returns
returns g c = (c.with_back-handle.result, c.with_back-handle.ensures.back, refl, c.with_back-handle.ensures.unseen)
