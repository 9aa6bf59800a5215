use Rattle.std.proofs.Common.{inl, refl}
use Rattle.rkt_stream.proofs.Flows.{asks_after}
use Rattle.rkt_stream.proofs.stream.ask.Goals as goal

pub returns-in-Pending-clause-polled : goal.returns-in-Pending-clause-polled
returns-in-Pending-clause-polled g c = asks_after g.A.Stream.polled g.B.Stream.polled c.args.gate c.args.one.now c.args.other.now c.poll_next-in-Pending.result _ _ c.in-Pending.ensures.polled c.poll_next-in-Pending.ensures.polled

pub returns-in-Ready-clause-polled : goal.returns-in-Ready-clause-polled
returns-in-Ready-clause-polled g c = inl (refl, c.in-Ready.ensures.polled)
