use Rattle.std.proofs.Common.{◌≡◌, ◌∙◌, length, sym, arith}
use Rattle.std.proofs.lemmas.Bool.{eqb-true}
use Rattle.std.proofs.lemmas.List.{nil_from_length}
use Rattle.rkt_stream.specs.Flow.{Passes}
use Rattle.rkt_stream.proofs.Joinings.{Passed-more, Passed-none}
use Rattle.rkt_stream.proofs.stream_reader.next_bytes.Goals as goal

pub loop-item-init : goal.loop-item-init
loop-item-init g c = record { passed = Passed-none _; asked = Passes.none }

pub returns-in-Pending-clause-asked : goal.returns-in-Pending-clause-asked
returns-in-Pending-clause-asked g c = (_, c.loop-item.invariant.asked, c.in-Pending.ensures.polled)

pub returns-in-Ready-None-clause-asked : goal.returns-in-Ready-None-clause-asked
returns-in-Ready-None-clause-asked g c = let none = rw c.in-Ready-None.field-0-is at c.in-Ready-None.ensures.polled in (_, c.loop-item.invariant.asked, none)

pub returns-then-not-is_empty-clause-asked : goal.returns-then-not-is_empty-clause-asked
returns-then-not-is_empty-clause-asked g c = let given = rw c.in-Ready-Some.field-0-is at c.in-Ready-Some.ensures.polled in (_, c.loop-item.invariant.asked, given)

pub loop-item-preserved : goal.loop-item-preserved
loop-item-preserved g c =
    let flows = rw c.in-Ready-Some.field-0-is at c.in-Ready-Some.ensures.flows in
    let none : length c.in-Ready-Some.item.items ≡ 0 = omega (arith, eqb-true c.in-Ready-Some.item.len 0 (sym c.is_empty.ensures ∙ c.if-not-is_empty.false), c.in-Ready-Some.item.ok.0) in
    let given = rw c.in-Ready-Some.field-0-is at c.in-Ready-Some.ensures.polled in
    let empty = nil_from_length c.in-Ready-Some.item.items none in
    record { passed = Passed-more c.in-Ready-Some.item c.loop-item.invariant.passed flows empty; asked = Passes.more c.loop-item.invariant.asked empty given }
