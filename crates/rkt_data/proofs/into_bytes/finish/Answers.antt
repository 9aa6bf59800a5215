use Rattle.std.proofs.Common.{Ok, Err}
use Rattle.rkt_base.specs.declared.poll.Poll.TheVariants.{Ready, Pending}
use Rattle.rkt_data.proofs.Drains.{Draws-closed, Follows-trans}
use Rattle.rkt_data.proofs.CountedSources.{ByGate-caused}
use Rattle.rkt_data.proofs.into_bytes.finish.Goals as goal

pub returns-in-Failed-clause-by_gate : goal.returns-in-Failed-clause-by_gate
returns-in-Failed-clause-by_gate g c =
    let draws = rw c.in-Failed.is at c.drain-count.ensures.draws in
    ByGate-caused g.S.Source.polled c.args.gate c.in-Failed.e c.from.result _ _ c.from.ensures draws.by_gate

pub returns-in-Waiting-clause-by_gate : goal.returns-in-Waiting-clause-by_gate
returns-in-Waiting-clause-by_gate g c = let draws = rw c.in-Waiting.is at c.drain-count.ensures.draws in draws.by_gate

pub returns-in-NoMemory-clause-by_gate : goal.returns-in-NoMemory-clause-by_gate
returns-in-NoMemory-clause-by_gate g c = let draws = rw c.in-NoMemory.is at c.drain-count.ensures.draws in draws.by_gate

pub returns-in-Pending-clause-by_gate : goal.returns-in-Pending-clause-by_gate
returns-in-Pending-clause-by_gate g c =
    let draws = rw c.in-End.is at c.drain-count.ensures.draws in
    Draws-closed Pending draws c.in-Pending.ensures.below c.in-Pending.ensures.by_gate

pub returns-in-Ready-Err-clause-by_gate : goal.returns-in-Ready-Err-clause-by_gate
returns-in-Ready-Err-clause-by_gate g c =
    let draws = rw c.in-End.is at c.drain-count.ensures.draws in
    let closed = rw c.in-Ready-Err.field-0-is at c.in-Ready-Err.ensures.by_gate in
    let below = rw c.in-Ready-Err.field-0-is at c.in-Ready-Err.ensures.below in
    ByGate-caused g.S.Source.polled c.args.gate c.in-Ready-Err.e _ _ _ c.from-in-Ready-Err.ensures (Draws-closed (Ready (Err c.in-Ready-Err.e)) draws below closed)

pub returns-in-Ready-Ok-clause-by_gate : goal.returns-in-Ready-Ok-clause-by_gate
returns-in-Ready-Ok-clause-by_gate g c =
    let draws = rw c.in-End.is at c.drain-count.ensures.draws in
    let closed = rw c.in-Ready-Ok.field-0-is at c.in-Ready-Ok.ensures.by_gate in
    let below = rw c.in-Ready-Ok.field-0-is at c.in-Ready-Ok.ensures.below in
    Draws-closed (Ready (Ok c.in-Ready-Ok.complete)) draws below closed

pub returns-in-Pending-clause-follows : goal.returns-in-Pending-clause-follows
returns-in-Pending-clause-follows g c = Follows-trans c.drain-count.ensures.draws.follows c.close.ensures.follows

pub returns-in-Ready-Err-clause-follows : goal.returns-in-Ready-Err-clause-follows
returns-in-Ready-Err-clause-follows g c = Follows-trans c.drain-count.ensures.draws.follows c.close.ensures.follows

pub returns-in-Ready-Ok-clause-follows : goal.returns-in-Ready-Ok-clause-follows
returns-in-Ready-Ok-clause-follows g c = Follows-trans c.drain-count.ensures.draws.follows c.close.ensures.follows
