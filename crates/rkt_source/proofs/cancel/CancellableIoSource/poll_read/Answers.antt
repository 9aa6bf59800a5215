use Rattle.std.proofs.Common.{◌∙◌, ap, inl, inr, refl, rules}
use Rattle.rkt_base.specs.declared.poll.Poll.TheVariants.{Pending}
use Rattle.rkt_source.proofs.cancel.CancellableIoSource.poll_read.Goals as goal

pub returns-in-None-clause-polled : goal.returns-in-None-clause-polled
returns-in-None-clause-polled g c = λ room.
    let is = c.self.view_is ∙ c.in-None.ensures.1 in
    inl (c.in-None.ensures.0, ap (λ d. d.stage) is, rw (← ap (λ d. d.io) is) (c.poll_read.ensures.polled room))

pub returns-in-Some-Pending-clause-polled : goal.returns-in-Some-Pending-clause-polled
returns-in-Some-Pending-clause-polled g c = λ room.
    let closed = rw c.in-Some-Pending.field-0-is at c.in-Some-Pending.ensures in
    inr (Pending, closed, refl)

pub returns-in-Some-Ready-Gone-clause-polled : goal.returns-in-Some-Ready-Gone-clause-polled
returns-in-Some-Ready-Gone-clause-polled g c = λ room. inr (c.in-Some-Ready-Gone.field-0, c.in-Some-Ready-Gone.ensures, search rules)

pub returns-in-Some-Ready-TimedOut-clause-polled : goal.returns-in-Some-Ready-TimedOut-clause-polled
returns-in-Some-Ready-TimedOut-clause-polled g c = λ room. inr (c.in-Some-Ready-TimedOut.field-0, c.in-Some-Ready-TimedOut.ensures, search rules)
