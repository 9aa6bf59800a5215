use Rattle.std.proofs.Common.{◌≡◌, ◌<◌, false, take, length, length-take, le_of_eq, arith, rules}
use Rattle.std.proofs.lemmas.List.{with_items_is}
use Rattle.rkt_data.specs.Body.{EndSeen}
use Rattle.rkt_data.specs.CountedSource.{tapped}
use Rattle.rkt_data.proofs.CountedSources.{Peeked-topped, PeeksByGate-alone, PeeksByGate-stopped, is_end}
use Rattle.rkt_data.proofs.data.Data.fill.Goals as goal

pub returns-then-self-clause-by_gate : goal.returns-then-self-clause-by_gate
returns-then-self-clause-by_gate g c = PeeksByGate-alone g.S.Source.polled c.args.gate c.args.self.now

pub returns-in-None-clause-by_gate : goal.returns-in-None-clause-by_gate
returns-in-None-clause-by_gate g c = rw (← c.self.view_is) (PeeksByGate-alone g.S.Source.polled c.args.gate record { held = take c.self.inside.held c.self.inside.bytes.items; tap = tapped c.self.inside.tap; complete = c.self.inside.complete })

pub returns-in-Some-clause-by_gate : goal.returns-in-Some-clause-by_gate
returns-in-Some-clause-by_gate g c =
    let met : c.eq-self-inside.result ≡ is_end c.top_up-now.result.1 = search rules in
    rw (← c.self.view_is, c.in-Some.is)
    (PeeksByGate-stopped g.S.Source.polled c.args.gate c.top_up-now.result.1 c.ready_unless_waiting.result _ _ _ _ _ _ met c.ready_unless_waiting.ensures.waiting c.ready_unless_waiting.ensures.ready c.top_up-now.ensures.by_gate)

pub returns-in-Some-clause-peeked : goal.returns-in-Some-clause-peeked
returns-in-Some-clause-peeked g c =
    let same : length c.top_up-now.new.bytes ≡ c.self.inside.bytes.len = omega (arith, c.top_up-now.auto.bytes, c.as_mut_slice.ensures.len) in
    let reads : c.self.inside.complete ≡ false = search rules in
    let more : c.self.inside.held < c.min-want.result = search rules in
    let end : EndSeen c.eq-self-inside.result (g.S.Source.meaning c.top_up-now.new.tap.source) = search rules in
    rw (← c.self.view_is, c.in-Some.is, with_items_is c.self.inside.bytes c.top_up-now.new.bytes same, ← c.as_mut_slice.ensures.value)
    (Peeked-topped _ _ _ _ c.min-want.result _ _ _ _ _ _ _ (le_of_eq c.min-want.ensures) c.top_up-now.ensures.begun c.top_up-now.ensures.topped_up end reads (λ enough. omega (arith, enough, more, c.min-want.ensures, length-take c.self.inside.held c.as_mut_slice.result.now)))
