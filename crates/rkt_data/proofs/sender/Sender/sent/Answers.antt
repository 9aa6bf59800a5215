use Rattle.std.proofs.Common.{arith}
use Rattle.rkt_data.proofs.Sends.{Sends-of, SentAll-of}
use Rattle.rkt_data.proofs.sender.Sender.sent.Goals as goal

pub returns-clause-sends : goal.returns-clause-sends
returns-clause-sends g c = rw (← c.self.view_is)
    (Sends-of g.S.Source.meaning g.K.Sink.meaning c.self.inside.pipe.opened record { now = c.self.inside.sink; begun = c.self.inside.begun.value } c.self.inside.from _ _ c.self.invariant.0 (omega (arith, c.left.ensures.left)) (omega arith))

pub returns-clause-all : goal.returns-clause-all
returns-clause-all g c = rw (← c.self.view_is) (λ none used.
    SentAll-of g.S.Source.meaning g.K.Sink.meaning c.self.inside.pipe.opened record { now = c.self.inside.sink; begun = c.self.inside.begun.value } c.self.inside.from _ _ c.self.invariant.0 (omega (arith, c.left.ensures.left)) (omega arith) none used)
