use Rattle.std.proofs.Common.{◌≡◌, ◌≤◌, ◌+◌, ◌∙◌, ap, arith, length, sym}
use Rattle.std.proofs.lemmas.Bool.{true≢false}
use Rattle.std.proofs.lemmas.List.{length_push}
use Rattle.rkt_ignition.specs.Ignites.{begins}
use Rattle.rkt_ignition.proofs.Walks.{all_made, goes_on, none_left, too_many}
use Rattle.rkt_ignition.proofs.rounds.call_all.Goals as goal

pub loop-made-init : goal.loop-made-init
loop-made-init g c = record {
  ignites = rw c.new-calls.ensures begins;
  all = ap length c.new-calls.ensures;
}

pub returns-in-None : goal.returns-in-None
returns-in-None g c =
    let within : length c.loop-made.calls ≤ 1024 = omega (arith, c.loop-made.invariant.all, c.loop-made-test.true) in
    none_left g.P.IgniteCallback.calling g.F.Attach.key g.F.Attach.info (record { attached = c.args.attached.now; building = c.args.building.now }) (record { attached = c.loop-made.attached; building = c.loop-made.building }) (record { attached = c.next_call.new.attached; building = c.next_call.new.building }) c.loop-made.calls c.loop-made.invariant.ignites within (rw c.in-None.is at c.in_ok-call.ensures)

pub loop-made-preserved : goal.loop-made-preserved
loop-made-preserved g c = record {
  ignites = goes_on g.P.IgniteCallback.calling g.F.Attach.key g.F.Attach.info (record { attached = c.args.attached.now; building = c.args.building.now }) (record { attached = c.loop-made.attached; building = c.loop-made.building }) (record { attached = c.next_call.new.attached; building = c.next_call.new.building }) c.loop-made.calls c.push.new.self c.in-Some.call c.loop-made.invariant.ignites (rw c.in-Some.is at c.in_ok-call.ensures) c.in_ok-push-in-Some.ensures.ok;
  all = ap length c.in_ok-push-in-Some.ensures.ok ∙ length_push c.loop-made.calls c.in-Some.call ∙ ap (λ n. n + 1) c.loop-made.invariant.all;
}

pub returns-then-waits : goal.returns-then-waits
returns-then-waits g c =
    let all : length c.loop-made.calls ≡ 1024 = omega (arith, c.loop-made.invariant.all, c.loop-made-test.false, c.loop-made.auto._made-end) in
    too_many g.P.IgniteCallback.calling g.F.Attach.key g.F.Attach.info (record { attached = c.args.attached.now; building = c.args.building.now }) (record { attached = c.loop-made.attached; building = c.loop-made.building }) (record { attached = c.settle.new.attached; building = c.settle.new.building }) c.loop-made.calls c.loop-made.invariant.ignites all c.in_ok-settle.ensures (c.waits.ensures.0 c.if-waits.true)

pub returns : goal.returns
returns g c =
    let within : length c.loop-made.calls ≤ 1024 = omega (arith, c.loop-made.invariant.all, c.loop-made.auto._made-end) in
    all_made g.P.IgniteCallback.calling g.F.Attach.key g.F.Attach.info (record { attached = c.args.attached.now; building = c.args.building.now }) (record { attached = c.loop-made.attached; building = c.loop-made.building }) (record { attached = c.settle.new.attached; building = c.settle.new.building }) c.loop-made.calls c.loop-made.invariant.ignites within c.in_ok-settle.ensures (λ waits. true≢false (sym (c.if-waits.ensures.1 waits)))
