use Rattle.std.proofs.Common.{◌≡◌, ◌+◌, ◌-◌, ◌≤◌, ◌<◌, ◌∙◌, length, take, drop, min, arith, ap, refl, rules, length-take, length-take-le}
use Rattle.rkt_data.specs.CountedSource.{tapped}
use Rattle.rkt_data.proofs.Streams.{front_read, source_read}
use Rattle.rkt_data.proofs.CountedSources.{asks_held, asks_source}
use Rattle.rkt_data.proofs.limited_reader.LimitedReader.read.Goals as goal

pub returns-then-given-self-clause-by_gate : goal.returns-then-given-self-clause-by_gate
returns-then-given-self-clause-by_gate g c =
    let long : length (take c.self.inside.held c.self.inside.bytes.items) ≡ c.self.inside.held = length-take-le c.self.inside.held c.self.inside.bytes.items (omega (arith, c.self.invariant.1, c.self.inside.bytes.ok.0)) in
    rw (← c.self.view_is) (asks_held g.S.Source.polled c.args.gate _ c.min-n.result _ _ refl (omega (arith, c.min-n.ensures, c.min-room.ensures, long)) (λ some. omega (arith, long)))

pub returns-then-room-eq0-clause-by_gate : goal.returns-then-room-eq0-clause-by_gate
returns-then-room-eq0-clause-by_gate g c =
    rw (← c.self.view_is) (asks_held g.S.Source.polled c.args.gate _ 0 _ _ refl (omega (arith, c.min-room.ensures)) (λ some. absurd (omega (arith, c.min-room.ensures, some))))

pub returns-in-None-clause-by_gate : goal.returns-in-None-clause-by_gate
returns-in-None-clause-by_gate g c =
    let all : length (take c.self.inside.held c.self.inside.bytes.items) ≤ c.self.inside.given = omega (arith, length-take c.self.inside.held c.self.inside.bytes.items) in
    rw (← c.self.view_is, c.in-None.is) (asks_source g.S.Source.polled c.args.gate _ _ _ _ all (omega (arith, c.min-room.ensures)) refl)

pub returns-in-Ready-Ok-clause-by_gate : goal.returns-in-Ready-Ok-clause-by_gate
returns-in-Ready-Ok-clause-by_gate g c =
    let room : length (take c.min-room.result c.args.buf.now) ≡ min (length c.args.buf.now) (c.self.inside.limit - c.self.inside.given) = rw length-take (omega (arith, c.min-room.ensures)) in
    let some : 0 < min (length c.args.buf.now) (c.self.inside.limit - c.self.inside.given) = omega (arith, c.min-room.ensures) in
    let all : length (take c.self.inside.held c.self.inside.bytes.items) ≤ c.self.inside.given = omega (arith, length-take c.self.inside.held c.self.inside.bytes.items) in
    let read = rw (c.in-Ready-Ok.field-0-is, room) at c.in-Ready-Ok.ensures.polled in
    rw (← c.self.view_is, c.in-Some.is) (asks_source g.S.Source.polled c.args.gate _ _ _ _ all some (read some))

pub returns-in-Ready-Err-clause-by_gate : goal.returns-in-Ready-Err-clause-by_gate
returns-in-Ready-Err-clause-by_gate g c =
    let room : length (take c.min-room.result c.args.buf.now) ≡ min (length c.args.buf.now) (c.self.inside.limit - c.self.inside.given) = rw length-take (omega (arith, c.min-room.ensures)) in
    let some : 0 < min (length c.args.buf.now) (c.self.inside.limit - c.self.inside.given) = omega (arith, c.min-room.ensures) in
    let all : length (take c.self.inside.held c.self.inside.bytes.items) ≤ c.self.inside.given = omega (arith, length-take c.self.inside.held c.self.inside.bytes.items) in
    let read = rw (c.in-Ready-Err.field-0-is, room) at c.in-Ready-Err.ensures.polled in
    rw (← c.self.view_is, c.in-Some.is) (asks_source g.S.Source.polled c.args.gate _ _ _ _ all some (read some))

pub returns-in-Pending-clause-by_gate : goal.returns-in-Pending-clause-by_gate
returns-in-Pending-clause-by_gate g c =
    let room : length (take c.min-room.result c.args.buf.now) ≡ min (length c.args.buf.now) (c.self.inside.limit - c.self.inside.given) = rw length-take (omega (arith, c.min-room.ensures)) in
    let some : 0 < min (length c.args.buf.now) (c.self.inside.limit - c.self.inside.given) = omega (arith, c.min-room.ensures) in
    let all : length (take c.self.inside.held c.self.inside.bytes.items) ≤ c.self.inside.given = omega (arith, length-take c.self.inside.held c.self.inside.bytes.items) in
    let read = rw room at c.in-Pending.ensures.polled in
    rw (← c.self.view_is, c.in-Some.is) (asks_source g.S.Source.polled c.args.gate _ _ _ _ all some (read some))

pub returns-then-given-self-clause-answer : goal.returns-then-given-self-clause-answer
returns-then-given-self-clause-answer g c =
    let n : c.self.inside.given + c.min-n.result - c.self.inside.given ≡ c.min-n.result = omega arith in
    rw (← c.self.view_is) (
      search rules,
      search rules,
      front_read g.S.Source.meaning c.self.inside.bytes.items c.self.inside.held c.self.inside.limit c.self.inside.given c.self.inside.probed (tapped c.self.inside.tap) c.min-n.result _ _ c.args.buf.now
          c.self.invariant.0 (omega (arith, c.self.invariant.1, c.self.inside.bytes.ok.0)) (omega (arith, c.min-n.ensures)) (c.copy_from_slice.ensures.after ∙ ap (λ i. take i (drop c.self.inside.given c.as_slice.result.now)) n ∙ ap (λ l. take c.min-n.result (drop c.self.inside.given l)) c.as_slice.ensures.value)
          (λ o p z. omega (arith, c.min-n.ensures, c.min-room.ensures, o, p, z)),
    )

pub returns-in-Ready-Ok-clause-answer : goal.returns-in-Ready-Ok-clause-answer
returns-in-Ready-Ok-clause-answer g c =
    let d = rw c.in-Some.is at c.self.invariant.0 in
    let a = rw c.in-Ready-Ok.field-0-is at c.in-Ready-Ok.ensures.answer in
    let long : length (take c.self.inside.held c.self.inside.bytes.items) ≤ c.self.inside.given = omega (arith, length-take c.self.inside.held c.self.inside.bytes.items) in
    let room : 0 < length (take c.min-room.result c.args.buf.now) = rw length-take (omega (arith, c.min-room.ensures)) in
    let less : c.self.inside.given < c.self.inside.limit = omega (arith, c.min-room.ensures) in
    let r = source_read g.S.Source.meaning (take c.self.inside.held c.self.inside.bytes.items) c.self.inside.limit c.self.inside.given c.self.inside.probed _ c.in-Ready-Ok.n
    c.poll_read.new.buf (drop c.min-room.result c.args.buf.now) d long less (omega (arith, a.0, c.poll_read.auto.buf)) (a.2 room) in
    rw (← c.self.view_is, c.in-Some.is)
    (omega (arith, a.0, length-take c.min-room.result c.args.buf.now), search rules, λ b e. ((r b e).0, λ o p z. (r b e).1 z))
