use Rattle.std.proofs.Common.{ap, length, arith}
use Rattle.rkt_media.specs.Media.{Media}
use Rattle.rkt_media.proofs.media_type.MediaType.parameter_count.Goals as goal

pub returns : goal.returns
returns c = omega (arith, ap (λ (m : Media). length m.parameters) c.self.view_is)
