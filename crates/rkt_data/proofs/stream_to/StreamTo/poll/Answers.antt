use Rattle.std.proofs.Common.{Ok, Err, ap, inl, refl}
use Rattle.rkt_base.specs.declared.poll.Poll.TheVariants.{Ready, Pending}
use Rattle.rkt_data.proofs.Drains.{Follows-trans}
use Rattle.rkt_data.proofs.Sends.{CallsAs-source, SendsNext-closed}
use Rattle.rkt_data.proofs.stream_to.StreamTo.poll.Goals as goal

pub returns-in-Waiting-clause-calls : goal.returns-in-Waiting-clause-calls
returns-in-Waiting-clause-calls g c = λ none. rw (← c.self.view_is) c.in-Waiting.ensures.calls

pub returns-in-Failed-clause-calls : goal.returns-in-Failed-clause-calls
returns-in-Failed-clause-calls g c = λ none. rw (← c.self.view_is) c.in-Failed.ensures.calls

pub returns-in-Pending-clause-calls : goal.returns-in-Pending-clause-calls
returns-in-Pending-clause-calls g c = λ none.
    let closed = rw c.in-Pending.is at c.close-closed.ensures.by_gate in
    let below = rw c.in-Pending.is at c.close-closed.ensures.below in
    rw (← c.self.view_is, c.close-closed.ensures.given, c.close-closed.ensures.from, c.close-closed.ensures.pending, c.close-closed.ensures.sink)
    (SendsNext-closed g.S.Source.meaning g.S.Source.polled g.K.Sink.written c.args.gate Pending Pending _ c.run.new.self.piped.opened _ _ _ _ _ c.in-Done.ensures.calls (c.in-Done.ensures.unmet refl) (λ less. let same = below less in (ap (λ x. x.opened.tap) same.0, same.1)) closed (λ b m. inl m))

pub returns-in-Ready-Err-clause-calls : goal.returns-in-Ready-Err-clause-calls
returns-in-Ready-Err-clause-calls g c = λ none.
    let field = rw c.in-Ready-Err.is at c.in-Ready-Err.field-0-is in
    let answered = rw c.in-Ready-Err.is at c.close-closed.ensures.by_gate in
    let closed = rw field at answered in
    let told = rw c.in-Ready-Err.is at c.close-closed.ensures.below in
    let below = rw field at told in
    rw (← c.self.view_is, c.close-closed.ensures.given, c.close-closed.ensures.from, c.close-closed.ensures.pending, c.close-closed.ensures.sink)
    (SendsNext-closed g.S.Source.meaning g.S.Source.polled g.K.Sink.written c.args.gate (Ready (Err c.in-Ready-Err.e)) (Ready (Err c.from-e.result)) _ c.run.new.self.piped.opened _ _ _ _ _ c.in-Done.ensures.calls (c.in-Done.ensures.unmet refl) (λ less. let same = below less in (ap (λ x. x.opened.tap) same.0, same.1)) closed
    (λ b m. CallsAs-source g.S.Source.polled g.K.Sink.written c.args.gate c.in-Ready-Err.e c.from-e.result _ _ _ _ b c.from-e.ensures m))

pub returns-in-Ready-Ok-clause-calls : goal.returns-in-Ready-Ok-clause-calls
returns-in-Ready-Ok-clause-calls g c = λ none.
    let field = rw c.in-Ready-Ok.is at c.in-Ready-Ok.field-0-is in
    let answered = rw c.in-Ready-Ok.is at c.close-closed.ensures.by_gate in
    let closed = rw field at answered in
    let told = rw c.in-Ready-Ok.is at c.close-closed.ensures.below in
    let below = rw field at told in
    rw (← c.self.view_is, c.close-closed.ensures.given, c.close-closed.ensures.from, c.close-closed.ensures.pending, c.close-closed.ensures.sink)
    (SendsNext-closed g.S.Source.meaning g.S.Source.polled g.K.Sink.written c.args.gate (Ready (Ok c.in-Ready-Ok.complete)) _ _ c.run.new.self.piped.opened _ _ _ _ _ c.in-Done.ensures.calls (c.in-Done.ensures.unmet refl) (λ less. let same = below less in (ap (λ x. x.opened.tap) same.0, same.1)) closed (λ b m. m))

pub returns-in-Pending-clause-follows : goal.returns-in-Pending-clause-follows
returns-in-Pending-clause-follows g c = rw (← c.self.view_is) (Follows-trans c.in-Done.ensures.follows c.close-closed.ensures.follows)

pub returns-in-Ready-Err-clause-follows : goal.returns-in-Ready-Err-clause-follows
returns-in-Ready-Err-clause-follows g c = rw (← c.self.view_is) (Follows-trans c.in-Done.ensures.follows c.close-closed.ensures.follows)

pub returns-in-Ready-Ok-clause-follows : goal.returns-in-Ready-Ok-clause-follows
returns-in-Ready-Ok-clause-follows g c = rw (← c.self.view_is) (Follows-trans c.in-Done.ensures.follows c.close-closed.ensures.follows)
