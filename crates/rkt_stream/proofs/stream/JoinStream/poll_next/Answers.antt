use Rattle.std.proofs.Common.{refl}
use Rattle.rkt_stream.proofs.Flows.{joined_asks_some}
use Rattle.rkt_stream.proofs.stream.JoinStream.poll_next.Goals as goal

pub returns-in-Ready-Some-clause-flows : goal.returns-in-Ready-Some-clause-flows
returns-in-Ready-Some-clause-flows g c =
    let asks = rw c.in-Ready-Some.field-0-is at c.in-Ready-Some.ensures.asks in
    rw (← c.self.view_is, c.if-turn.true, c.if-self.false) (joined_asks_some _ _ _ _ c.in-Ready-Some.item asks)

pub returns-in-Ready-Some-ask-clause-flows : goal.returns-in-Ready-Some-ask-clause-flows
returns-in-Ready-Some-ask-clause-flows g c =
    let asks = rw c.in-Ready-Some-ask.field-0-is at c.in-Ready-Some-ask.ensures.asks in
    rw (← c.self.view_is, c.if-turn.false, c.if-self.false) (joined_asks_some _ _ _ _ c.in-Ready-Some-ask.item asks)

pub returns-then-self-clause-polled : goal.returns-then-self-clause-polled
returns-then-self-clause-polled g c = rw (← c.self.view_is, c.if-self.true) (refl, refl)

pub returns-in-Ready-None-clause-polled : goal.returns-in-Ready-None-clause-polled
returns-in-Ready-None-clause-polled g c =
    let asks = rw c.in-Ready-None.field-0-is at c.in-Ready-None.ensures.polled in
    rw (← c.self.view_is, c.if-turn.true, c.if-self.false) (refl, asks)

pub returns-in-Ready-Some-clause-polled : goal.returns-in-Ready-Some-clause-polled
returns-in-Ready-Some-clause-polled g c =
    let asks = rw c.in-Ready-Some.field-0-is at c.in-Ready-Some.ensures.polled in
    rw (← c.self.view_is, c.if-turn.true, c.if-self.false) (refl, asks)

pub returns-in-Pending-clause-polled : goal.returns-in-Pending-clause-polled
returns-in-Pending-clause-polled g c = rw (← c.self.view_is, c.if-turn.true, c.if-self.false) (refl, c.in-Pending.ensures.polled)

pub returns-in-Ready-None-ask-clause-polled : goal.returns-in-Ready-None-ask-clause-polled
returns-in-Ready-None-ask-clause-polled g c =
    let asks = rw c.in-Ready-None-ask.field-0-is at c.in-Ready-None-ask.ensures.polled in
    rw (← c.self.view_is, c.if-turn.false, c.if-self.false) (refl, asks)

pub returns-in-Ready-Some-ask-clause-polled : goal.returns-in-Ready-Some-ask-clause-polled
returns-in-Ready-Some-ask-clause-polled g c =
    let asks = rw c.in-Ready-Some-ask.field-0-is at c.in-Ready-Some-ask.ensures.polled in
    rw (← c.self.view_is, c.if-turn.false, c.if-self.false) (refl, asks)

pub returns-in-Pending-ask-clause-polled : goal.returns-in-Pending-ask-clause-polled
returns-in-Pending-ask-clause-polled g c = rw (← c.self.view_is, c.if-turn.false, c.if-self.false) (refl, c.in-Pending-ask.ensures.polled)
