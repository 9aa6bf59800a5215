use Rattle.std.specs.Prelude.{take}
use Rattle.std.proofs.Common.{refl}
use Rattle.rkt_exchange.proofs.peeking.PeekingOf+Request+T+Body0+T+Ctx+T.poll.Goals as goal

pub returns-in-Ready : goal.returns-in-Ready
returns-in-Ready g c = (refl, c.in-Ready.ensures.0, c.override_method.ensures (take 14 c.peek_method.new.body.held) c.in-Ready.ensures.1)
