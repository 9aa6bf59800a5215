use Rattle.rkt_data.specs.CountedSource.{ended}
use Rattle.rkt_message.proofs.Readings.{ByGate-resized}
use Rattle.rkt_message.proofs.whole.Whole.poll.Goals as goal

pub returns-in-End-clause-by_gate : goal.returns-in-End-clause-by_gate
returns-in-End-clause-by_gate g c = λ none.
    let draws = rw c.in-End.is at c.drain-count.ensures.draws in
    rw (← c.self.view_is, c.lower.ensures) (ByGate-resized g.S.Source.polled c.args.gate ended _ _ _ draws.by_gate)

pub returns-in-Waiting-clause-by_gate : goal.returns-in-Waiting-clause-by_gate
returns-in-Waiting-clause-by_gate g c = λ none. let draws = rw c.in-Waiting.is at c.drain-count.ensures.draws in rw (← c.self.view_is) draws.by_gate

pub returns-in-Failed-clause-by_gate : goal.returns-in-Failed-clause-by_gate
returns-in-Failed-clause-by_gate g c = λ none. let draws = rw c.in-Failed.is at c.drain-count.ensures.draws in rw (← c.self.view_is) draws.by_gate
