use Rattle.std.proofs.Common.{◌≡◌, inl, inr, ℕ, List, Err, ap, rules, subst}
use Rattle.rkt_demo.specs.Program.{refusal}
use Rattle.rkt_script.specs.Streams.{Refuses, RunsOut, Takes}
use Rattle.rkt_demo.proofs.program.refuse_line.Goals as goal

pub returns-in-Ok-write_all-clause-script : goal.returns-in-Ok-write_all-clause-script
returns-in-Ok-write_all-clause-script g c three =
    let same : c.as_bytes.result.now ≡ refusal c.args.number = search rules in
    inl (subst (λ (text : List ℕ). Takes g.K.Sink.meaning g.K.Sink.written c.args.sink.now text c.write_all.new.sink) same (c.in-Ok-write_all.ensures.ok, c.in-Ok-write_all.ensures.written))

pub returns-in-Err-Fault-clause-script : goal.returns-in-Err-Fault-clause-script
returns-in-Err-Fault-clause-script g c three =
    let same : c.as_bytes.result.now ≡ refusal c.args.number = search rules in
    inr (subst (λ (text : List ℕ). Refuses g.K.Sink.meaning g.K.Sink.written c.args.sink.now text c.write_all.new.sink) same
    (c.in-Err-Fault.ensures.cause (ap Err c.in-Err-Fault.field-0-is), c.in-Err-Fault.ensures.front, rw c.in-Err-Fault.field-0-is at c.in-Err-Fault.ensures.written))

pub returns-clause-starved : goal.returns-clause-starved
returns-clause-starved g c six =
    let same : c.as_bytes.result.now ≡ refusal c.args.number = search rules in
    inr (subst (λ (text : List ℕ). RunsOut g.K.Sink.meaning g.K.Sink.written c.args.sink.now text c.write_all.new.sink) same
    (c.in-Err-NoMemory.ensures.front, rw c.in-Err-NoMemory.field-0-is at c.in-Err-NoMemory.ensures.written))
