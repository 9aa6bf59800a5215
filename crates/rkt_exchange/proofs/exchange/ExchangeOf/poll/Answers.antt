use Rattle.std.proofs.Common.{◌∙◌, sym}
use Rattle.rkt_exchange.proofs.exchange.ExchangeOf.poll.Goals as goal

pub returns-in-Pending-clause-gives : goal.returns-in-Pending-clause-gives
returns-in-Pending-clause-gives g c = λ rule first fits stands.
    rw c.insert.ensures.value (c.in-Pending.ensures rule first fits (rw (sym c.take.ensures.value ∙ c.in-Some.is) at (rw (← c.self.view_is) at stands)))

pub returns-in-Ready-clause-gives : goal.returns-in-Ready-clause-gives
returns-in-Ready-clause-gives g c = λ rule first fits stands. c.in-Ready.ensures rule first fits (rw (sym c.take.ensures.value ∙ c.in-Some.is) at (rw (← c.self.view_is) at stands))
