use Rattle.std.proofs.Common.{◌≡◌, ◌<◌, ◌∙◌, length, refl, sym, arith, inl, inr, true, false}
use Rattle.std.proofs.lemmas.Bool.{eqb-false, eqb-true}
use Rattle.rkt_stream.proofs.Chains.{first_gives, second_answers, turn_over}
use Rattle.rkt_source.proofs.Sources.{Keeps-refl}
use Rattle.rkt_stream.proofs.chain.ChainSource.poll_read.Goals as goal

pub returns-then-is_empty-clause-polled : goal.returns-then-is_empty-clause-polled
returns-then-is_empty-clause-polled g c = λ room. absurd (omega (arith, room, eqb-true (length c.args.buf.now) 0 (sym c.is_empty.ensures ∙ c.if-is_empty.true)))

pub returns-then-self-clause-polled : goal.returns-then-self-clause-polled
returns-then-self-clause-polled g c = λ room. rw (← c.self.view_is, c.if-self.true) (refl, c.poll_read.ensures.polled room)

pub returns-in-Ready-Ok-clause-polled : goal.returns-in-Ready-Ok-clause-polled
returns-in-Ready-Ok-clause-polled g c = λ room.
    let read = rw c.in-Ready-Ok.field-0-is at c.in-Ready-Ok.ensures.polled in
    rw (← c.self.view_is, c.if-self.false) (inl (refl, read room, λ e. let none : c.in-Ready-Ok.n ≡ 0 = cc in c.in-Ready-Ok.n-test.1 none))

pub returns-in-Ready-Ok-eq0-clause-polled : goal.returns-in-Ready-Ok-eq0-clause-polled
returns-in-Ready-Ok-eq0-clause-polled g c = λ room.
    let h = c.in-Ready-Ok-eq0 in
    let read = rw (h.field-0-is, h.field-0-0-test) at h.ensures.polled in
    let second = rw c.poll_read-2.auto.buf at c.poll_read-in-Ready-Ok-eq0.ensures.polled in
    rw (← c.self.view_is, c.if-self.false) (inr (refl, read room, second room))

pub returns-in-Ready-Err-clause-polled : goal.returns-in-Ready-Err-clause-polled
returns-in-Ready-Err-clause-polled g c = λ room.
    let read = rw c.in-Ready-Err.field-0-is at c.in-Ready-Err.ensures.polled in
    rw (← c.self.view_is, c.if-self.false) (inl (refl, read room, λ e. absurd (cc)))

pub returns-in-Pending-clause-polled : goal.returns-in-Pending-clause-polled
returns-in-Pending-clause-polled g c = λ room. rw (← c.self.view_is, c.if-self.false) (inl (refl, c.in-Pending.ensures.polled room, λ e. absurd (cc)))

pub returns-then-self-clause-answer : goal.returns-then-self-clause-answer
returns-then-self-clause-answer g c =
    let turn = rw c.if-self.true at c.self.invariant in
    let m = g.T.Source.meaning c.self.inside.first in
    rw (← c.self.view_is, c.if-self.true) (second_answers true _ m m _ _ c.args.buf.now c.args.buf.now c.poll_read.new.buf _ (Keeps-refl c.args.gate.tripped m) refl (g.met.T.Source.waits_within c.self.inside.first) turn refl c.poll_read.ensures.answer)

pub returns-in-Ready-Ok-clause-answer : goal.returns-in-Ready-Ok-clause-answer
returns-in-Ready-Ok-clause-answer g c =
    let turn = rw c.if-self.false at c.self.invariant in
    let a = rw c.in-Ready-Ok.field-0-is at c.in-Ready-Ok.ensures.answer in
    rw (← c.self.view_is)
    (first_gives (g.U.Source.meaning c.self.inside.begun.value).taken (g.T.Source.meaning c.self.inside.first) (g.T.Source.meaning c.poll_read-2.new.self) (g.U.Source.meaning c.self.inside.second) c.in-Ready-Ok.n c.args.buf.now c.poll_read-2.new.buf
    turn c.in-Ready-Ok.n-test.1 c.poll_read-2.auto.buf a)

pub returns-in-Ready-Ok-eq0-clause-answer : goal.returns-in-Ready-Ok-eq0-clause-answer
returns-in-Ready-Ok-eq0-clause-answer g c =
    let turn = rw c.if-self.false at c.self.invariant in
    let h = c.in-Ready-Ok-eq0 in
    let a = rw h.field-0-is at h.ensures.answer in
    let room : 0 < length c.args.buf.now = omega (arith, eqb-false (length c.args.buf.now) 0 (sym c.is_empty.ensures ∙ c.if-is_empty.false)) in
    let none : h.field-0-0 ≡ 0 = h.field-0-0-test in
    let over = turn_over _ _ _ (g.U.Source.meaning c.self.inside.second) h.field-0-0 c.args.buf.now c.poll_read-2.new.buf turn room none h.ensures.kept a in
    rw (← c.self.view_is, c.if-self.false) (second_answers false _ _ _ _ _ c.args.buf.now c.poll_read-2.new.buf c.poll_read-in-Ready-Ok-eq0.new.buf _ h.ensures.kept (omega (arith, a.1, none)) (g.met.T.Source.waits_within c.poll_read-2.new.self) over c.poll_read-2.auto.buf c.poll_read-in-Ready-Ok-eq0.ensures.answer)
