use Rattle.std.proofs.Common.{◌≡◌, ◌∙◌, length, sym}
use Rattle.std.proofs.lemmas.Bool.{eqb-true}
use Rattle.rkt_stream.proofs.Joinings.{Parts-item, Parts-over}
use Rattle.rkt_stream.proofs.stream_reader.StreamReader.fill.Goals as goal

pub invariant_of-self-in-Pending : goal.invariant_of-self-in-Pending
invariant_of-self-in-Pending g c = λ w e.
    let p = rw c.in-Some.is at c.self.invariant in
    rw c.in-Pending.ensures.next.1 (p w e)

pub invariant_of-self-in-Ready-None : goal.invariant_of-self-in-Ready-None
invariant_of-self-in-Ready-None g c = λ w e.
    let p = rw c.in-Some.is at c.self.invariant in
    let n = rw c.in-Ready-None.field-0-is at c.in-Ready-None.ensures.next in
    rw n.1 (p w e)

pub invariant_of-self-in-Ready-Some : goal.invariant_of-self-in-Ready-Some
invariant_of-self-in-Ready-Some g c = λ w e.
    let p = rw c.in-Some.is at c.self.invariant in
    let n = rw c.in-Ready-Some.field-0-is at c.in-Ready-Some.ensures.next in
    let none : length c.self.inside.piece ≡ 0 = eqb-true (length c.self.inside.piece) 0 (sym c.is_empty.ensures ∙ c.if-not-is_empty.false) in
    rw c.new.ensures (Parts-item c.self.inside.piece c.in-Ready-Some.bytes.items none (p w e) n.2)

pub returns-in-None-clause-fills : goal.returns-in-None-clause-fills
returns-in-None-clause-fills g c = λ none w e.
    let p = rw c.in-None.is at c.self.invariant in
    Parts-over c.self.inside.piece none (λ l z. cc) (p w e)

pub returns-in-Ready-None-clause-fills : goal.returns-in-Ready-None-clause-fills
returns-in-Ready-None-clause-fills g c = λ none w e.
    let p = rw c.in-Some.is at c.self.invariant in
    let n = rw c.in-Ready-None.field-0-is at c.in-Ready-None.ensures.next in
    Parts-over c.self.inside.piece none n.2 (p w e)
