use Rattle.std.proofs.Common.{[], take, inl, inr, refl, sym, arith, take-append-drop}
use Rattle.rkt_source.specs.Sink.{Feeds}
use Rattle.sample_link.proofs.outbox.Outbox.write_some.Goals as goal

pub returns-then-count-eq0-clause-feeds : goal.returns-then-count-eq0-clause-feeds
returns-then-count-eq0-clause-feeds g c =
    let written = rw (c.in-Ready-Ok.field-0-is, c.if-count-eq0.true, c.rest.ensures) at c.in-Ready-Ok.ensures.written in
    ([], refl, (c.args.sink.now, c.args.self.now, c.requires, Feeds.none, inr (refl, written)))

pub returns-in-Pending-clause-feeds : goal.returns-in-Pending-clause-feeds
returns-in-Pending-clause-feeds g c =
    let written = rw c.rest.ensures at c.in-Pending.ensures.written in
    ([], refl, (c.args.sink.now, c.args.self.now, c.requires, Feeds.none, written))

pub returns-in-Ready-Err-clause-feeds : goal.returns-in-Ready-Err-clause-feeds
returns-in-Ready-Err-clause-feeds g c =
    let written = rw (c.in-Ready-Err.field-0-is, c.rest.ensures) at c.in-Ready-Err.ensures.written in
    ([], refl, (c.args.sink.now, c.args.self.now, c.requires, Feeds.none, inl written))

pub returns-else-count-eq0-clause-feeds : goal.returns-else-count-eq0-clause-feeds
returns-else-count-eq0-clause-feeds g c =
    let written = rw (c.in-Ready-Ok.field-0-is, c.rest.ensures) at c.in-Ready-Ok.ensures.written in
    rw c.advance.ensures (take c.in-Ready-Ok.count c.args.self.now, sym (take-append-drop c.in-Ready-Ok.count c.args.self.now), Feeds.more {n = c.in-Ready-Ok.count} Feeds.none (omega arith) written)
