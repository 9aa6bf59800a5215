use Rattle.std.proofs.Common.{◌∙◌, ap, refl}
use Rattle.rkt_router.specs.CallLaws.{any_gate_fits}
use Rattle.rkt_router.specs.Calls.{any_gate}
use Rattle.rkt_routing.specs.Relations.{relations}
use Rattle.rkt_routing.specs.Invariant.{IsStep}
use Rattle.rkt_routing.proofs.Endings.{ends_found, moves_wait, stands_under, waits_stand}
use Rattle.rkt_routing.proofs.Routes.{trying_makes, trying_turned, trying_within}
use Rattle.rkt_routing.proofs.Statuses.{catching_makes, catching_turned}
use Rattle.rkt_routing.proofs.routing.RoutingOf.poll.Goals.{in-Next, in-Trying, in-Catch, in-Catching}
use Rattle.rkt_routing.proofs.routing.RoutingOf.poll.Goals as goal

pub loop-stage-init : goal.loop-stage-init
loop-stage-init g c = (
  ap (λ x. x.gate) c.set_gate.ensures,
  (c.self.invariant.0, rw c.set_gate.ensures (stands_under _ c.self.invariant.0 (record { router = c.self.inside.router.now; turns = c.self.inside.turns }) c.self.inside.underway.live c.args.gate c.self.inside.underway.stage c.self.invariant.1)),
  λ rule first fits stands. stands,
)

pub route-requires : goal.route-requires
route-requires g c =
    let was = rw c.in-Trying.is at c.loop-stage.invariant.1.1 in
    record { within = trying_within (relations g.H.Handler.calling g.K.CatchHandler.calling any_gate) c.loop-stage.invariant.1.0 (record { router = c.self.inside.router.now; turns = c.self.inside.turns }) c.loop-stage.live c.in-Trying.call.position c.in-Trying.call.task c.in-Trying.call.turn c.in-Trying.call.again was }

pub turn_handler-turn-requires : goal.turn_handler-turn-requires
turn_handler-turn-requires g c =
    let was = rw c.in-Trying.is at c.loop-stage.invariant.1.1 in record {
      underway = (
        any_gate,
        was.before.body,
        was.before.kept,
        trying_makes (relations g.H.Handler.calling g.K.CatchHandler.calling any_gate) c.loop-stage.invariant.1.0 (record { router = c.self.inside.router.now; turns = c.self.inside.turns }) c.loop-stage.live c.in-Trying.call.position c.in-Trying.call.task c.in-Trying.call.turn c.in-Trying.call.again
            c.route.result.now c.turns.result c.turns.ensures.turns c.route.ensures was,
      );
    }

pub handler-requires : goal.handler-requires
handler-requires g c = let was = rw c.in-Catching.is at c.loop-stage.invariant.1.1 in record { there = rw was.found (was.handler, was.handles) }

pub turn_catch-turn-requires : goal.turn_catch-turn-requires
turn_catch-turn-requires g c =
    let was = rw c.in-Catching.is at c.loop-stage.invariant.1.1 in record {
      underway = (
        any_gate,
        c.in-Catching.call.status,
        was.before,
        catching_makes (relations g.H.Handler.calling g.K.CatchHandler.calling any_gate) c.loop-stage.invariant.1.0 (record { router = c.self.inside.router.now; turns = c.self.inside.turns }) c.loop-stage.live c.in-Catching.call.status c.in-Catching.call.position c.in-Catching.call.task c.in-Catching.call.turn
            c.handler.result.now c.turns-in-Catching.result c.turns-in-Catching.ensures.turns was (rw was.found at c.handler.ensures),
      );
    }

pub loop-stage-smaller : goal.loop-stage-smaller
loop-stage-smaller g c =
    let stepped : IsStep g.H.Handler.calling g.K.CatchHandler.calling (record { router = c.self.inside.router.now; turns = c.self.inside.turns }) c.loop-stage.live c.loop-stage.stage c.match-stage.live c.match-stage.moved =
    elim c.match-stage.branch [
      | in-Next w ↦ rw (w.live-is, w.moved-is, w.in-Next.is) (record { leads = w.begin_route-moved.ensures.gives; gate = w.begin_route-moved.ensures.gate; falls = w.begin_route-moved.ensures.falls })
      | in-Trying w ↦ rw (w.live-is, w.moved-is, w.in-Trying.is) (record {
        leads = λ rule first fits was. w.route_turned-moved.ensures.gives rule first
            (trying_turned _ first (record { router = c.self.inside.router.now; turns = c.self.inside.turns }) c.loop-stage.live w.turn_handler-turn.new.ctx w.in-Trying.call.position w.in-Trying.call.task w.turn_handler-turn.new.task w.in-Trying.call.turn w.in-Trying.call.again
            w.route.result.now w.turns.result w.turn_handler-turn.result w.turns.ensures.turns w.route.ensures w.turn_handler-turn.ensures.gate fits w.turn_handler-turn.ensures.left w.turn_handler-turn.ensures.pending
            (w.turn_handler-turn.ensures.grows rule) (λ body before making. w.turn_handler-turn.ensures.gives rule body before fits making) was);
        gate = w.route_turned-moved.ensures.gate ∙ w.turn_handler-turn.ensures.gate;
        falls = w.route_turned-moved.ensures.falls;
      })
      | in-Catch w ↦ rw (w.live-is, w.moved-is, w.in-Catch.is) (record { leads = w.begin_catch-moved.ensures.gives; gate = w.begin_catch-moved.ensures.gate; falls = w.begin_catch-moved.ensures.falls })
      | in-Catching w ↦ rw (w.live-is, w.moved-is, w.in-Catching.is) (record {
        leads = λ rule first fits was. w.catch_turned-moved.ensures.gives rule first
            (catching_turned _ first (record { router = c.self.inside.router.now; turns = c.self.inside.turns }) c.loop-stage.live w.turn_catch-turn.new.ctx w.in-Catching.call.status w.in-Catching.call.position w.in-Catching.call.task w.turn_catch-turn.new.task w.in-Catching.call.turn
            was.catcher w.handler.result.now w.turns-in-Catching.result w.turn_catch-turn.result w.turns-in-Catching.ensures.turns was.found (rw was.found at w.handler.ensures) w.turn_catch-turn.ensures.gate fits
            w.turn_catch-turn.ensures.left w.turn_catch-turn.ensures.pending (w.turn_catch-turn.ensures.grows rule) (λ status before making. w.turn_catch-turn.ensures.gives rule status before fits making) was);
        gate = w.catch_turned-moved.ensures.gate ∙ w.turn_catch-turn.ensures.gate;
        falls = w.catch_turned-moved.ensures.falls;
      })
    ] in
    rw c.in-Going.is at stepped.falls

pub loop-stage-preserved : goal.loop-stage-preserved
loop-stage-preserved g c =
    let stepped : IsStep g.H.Handler.calling g.K.CatchHandler.calling (record { router = c.self.inside.router.now; turns = c.self.inside.turns }) c.loop-stage.live c.loop-stage.stage c.match-stage.live c.match-stage.moved =
    elim c.match-stage.branch [
      | in-Next w ↦ rw (w.live-is, w.moved-is, w.in-Next.is) (record { leads = w.begin_route-moved.ensures.gives; gate = w.begin_route-moved.ensures.gate; falls = w.begin_route-moved.ensures.falls })
      | in-Trying w ↦ rw (w.live-is, w.moved-is, w.in-Trying.is) (record {
        leads = λ rule first fits was. w.route_turned-moved.ensures.gives rule first
            (trying_turned _ first (record { router = c.self.inside.router.now; turns = c.self.inside.turns }) c.loop-stage.live w.turn_handler-turn.new.ctx w.in-Trying.call.position w.in-Trying.call.task w.turn_handler-turn.new.task w.in-Trying.call.turn w.in-Trying.call.again
            w.route.result.now w.turns.result w.turn_handler-turn.result w.turns.ensures.turns w.route.ensures w.turn_handler-turn.ensures.gate fits w.turn_handler-turn.ensures.left w.turn_handler-turn.ensures.pending
            (w.turn_handler-turn.ensures.grows rule) (λ body before making. w.turn_handler-turn.ensures.gives rule body before fits making) was);
        gate = w.route_turned-moved.ensures.gate ∙ w.turn_handler-turn.ensures.gate;
        falls = w.route_turned-moved.ensures.falls;
      })
      | in-Catch w ↦ rw (w.live-is, w.moved-is, w.in-Catch.is) (record { leads = w.begin_catch-moved.ensures.gives; gate = w.begin_catch-moved.ensures.gate; falls = w.begin_catch-moved.ensures.falls })
      | in-Catching w ↦ rw (w.live-is, w.moved-is, w.in-Catching.is) (record {
        leads = λ rule first fits was. w.catch_turned-moved.ensures.gives rule first
            (catching_turned _ first (record { router = c.self.inside.router.now; turns = c.self.inside.turns }) c.loop-stage.live w.turn_catch-turn.new.ctx w.in-Catching.call.status w.in-Catching.call.position w.in-Catching.call.task w.turn_catch-turn.new.task w.in-Catching.call.turn
            was.catcher w.handler.result.now w.turns-in-Catching.result w.turn_catch-turn.result w.turns-in-Catching.ensures.turns was.found (rw was.found at w.handler.ensures) w.turn_catch-turn.ensures.gate fits
            w.turn_catch-turn.ensures.left w.turn_catch-turn.ensures.pending (w.turn_catch-turn.ensures.grows rule) (λ status before making. w.turn_catch-turn.ensures.gives rule status before fits making) was);
        gate = w.catch_turned-moved.ensures.gate ∙ w.turn_catch-turn.ensures.gate;
        falls = w.catch_turned-moved.ensures.falls;
      })
    ] in (
      stepped.gate ∙ c.loop-stage.invariant.0,
      (c.loop-stage.invariant.1.0, rw c.in-Going.is at (stepped.leads any_gate c.loop-stage.invariant.1.0 (any_gate_fits _) c.loop-stage.invariant.1.1)),
      λ rule first fits stands. rw c.in-Going.is at (stepped.leads rule first (rw c.loop-stage.invariant.0 fits) (c.loop-stage.invariant.2 rule first fits stands)),
    )

pub invariant_of-result : goal.invariant_of-result
invariant_of-result g c =
    let stepped : IsStep g.H.Handler.calling g.K.CatchHandler.calling (record { router = c.self.inside.router.now; turns = c.self.inside.turns }) c.loop-stage.live c.loop-stage.stage c.match-stage.live c.match-stage.moved =
    elim c.match-stage.branch [
      | in-Next w ↦ rw (w.live-is, w.moved-is, w.in-Next.is) (record { leads = w.begin_route-moved.ensures.gives; gate = w.begin_route-moved.ensures.gate; falls = w.begin_route-moved.ensures.falls })
      | in-Trying w ↦ rw (w.live-is, w.moved-is, w.in-Trying.is) (record {
        leads = λ rule first fits was. w.route_turned-moved.ensures.gives rule first
            (trying_turned _ first (record { router = c.self.inside.router.now; turns = c.self.inside.turns }) c.loop-stage.live w.turn_handler-turn.new.ctx w.in-Trying.call.position w.in-Trying.call.task w.turn_handler-turn.new.task w.in-Trying.call.turn w.in-Trying.call.again
            w.route.result.now w.turns.result w.turn_handler-turn.result w.turns.ensures.turns w.route.ensures w.turn_handler-turn.ensures.gate fits w.turn_handler-turn.ensures.left w.turn_handler-turn.ensures.pending
            (w.turn_handler-turn.ensures.grows rule) (λ body before making. w.turn_handler-turn.ensures.gives rule body before fits making) was);
        gate = w.route_turned-moved.ensures.gate ∙ w.turn_handler-turn.ensures.gate;
        falls = w.route_turned-moved.ensures.falls;
      })
      | in-Catch w ↦ rw (w.live-is, w.moved-is, w.in-Catch.is) (record { leads = w.begin_catch-moved.ensures.gives; gate = w.begin_catch-moved.ensures.gate; falls = w.begin_catch-moved.ensures.falls })
      | in-Catching w ↦ rw (w.live-is, w.moved-is, w.in-Catching.is) (record {
        leads = λ rule first fits was. w.catch_turned-moved.ensures.gives rule first
            (catching_turned _ first (record { router = c.self.inside.router.now; turns = c.self.inside.turns }) c.loop-stage.live w.turn_catch-turn.new.ctx w.in-Catching.call.status w.in-Catching.call.position w.in-Catching.call.task w.turn_catch-turn.new.task w.in-Catching.call.turn
            was.catcher w.handler.result.now w.turns-in-Catching.result w.turn_catch-turn.result w.turns-in-Catching.ensures.turns was.found (rw was.found at w.handler.ensures) w.turn_catch-turn.ensures.gate fits
            w.turn_catch-turn.ensures.left w.turn_catch-turn.ensures.pending (w.turn_catch-turn.ensures.grows rule) (λ status before making. w.turn_catch-turn.ensures.gives rule status before fits making) was);
        gate = w.catch_turned-moved.ensures.gate ∙ w.turn_catch-turn.ensures.gate;
        falls = w.catch_turned-moved.ensures.falls;
      })
    ] in
    let waits = moves_wait _ c.loop-stage.invariant.1.0 (record { router = c.self.inside.router.now; turns = c.self.inside.turns }) c.match-stage.live c.match-stage.moved c.in-Pending.next c.in-Pending.is (stepped.leads any_gate c.loop-stage.invariant.1.0 (any_gate_fits _) c.loop-stage.invariant.1.1) in
    (c.loop-stage.invariant.1.0, waits_stand _ c.loop-stage.invariant.1.0 (record { router = c.self.inside.router.now; turns = c.self.inside.turns }) c.match-stage.live c.in-Pending.next waits)

pub returns-in-Pending : goal.returns-in-Pending
returns-in-Pending g c = λ rule first fits stands.
    let stepped : IsStep g.H.Handler.calling g.K.CatchHandler.calling (record { router = c.self.inside.router.now; turns = c.self.inside.turns }) c.loop-stage.live c.loop-stage.stage c.match-stage.live c.match-stage.moved =
    elim c.match-stage.branch [
      | in-Next w ↦ rw (w.live-is, w.moved-is, w.in-Next.is) (record { leads = w.begin_route-moved.ensures.gives; gate = w.begin_route-moved.ensures.gate; falls = w.begin_route-moved.ensures.falls })
      | in-Trying w ↦ rw (w.live-is, w.moved-is, w.in-Trying.is) (record {
        leads = λ rule first fits was. w.route_turned-moved.ensures.gives rule first
            (trying_turned _ first (record { router = c.self.inside.router.now; turns = c.self.inside.turns }) c.loop-stage.live w.turn_handler-turn.new.ctx w.in-Trying.call.position w.in-Trying.call.task w.turn_handler-turn.new.task w.in-Trying.call.turn w.in-Trying.call.again
            w.route.result.now w.turns.result w.turn_handler-turn.result w.turns.ensures.turns w.route.ensures w.turn_handler-turn.ensures.gate fits w.turn_handler-turn.ensures.left w.turn_handler-turn.ensures.pending
            (w.turn_handler-turn.ensures.grows rule) (λ body before making. w.turn_handler-turn.ensures.gives rule body before fits making) was);
        gate = w.route_turned-moved.ensures.gate ∙ w.turn_handler-turn.ensures.gate;
        falls = w.route_turned-moved.ensures.falls;
      })
      | in-Catch w ↦ rw (w.live-is, w.moved-is, w.in-Catch.is) (record { leads = w.begin_catch-moved.ensures.gives; gate = w.begin_catch-moved.ensures.gate; falls = w.begin_catch-moved.ensures.falls })
      | in-Catching w ↦ rw (w.live-is, w.moved-is, w.in-Catching.is) (record {
        leads = λ rule first fits was. w.catch_turned-moved.ensures.gives rule first
            (catching_turned _ first (record { router = c.self.inside.router.now; turns = c.self.inside.turns }) c.loop-stage.live w.turn_catch-turn.new.ctx w.in-Catching.call.status w.in-Catching.call.position w.in-Catching.call.task w.turn_catch-turn.new.task w.in-Catching.call.turn
            was.catcher w.handler.result.now w.turns-in-Catching.result w.turn_catch-turn.result w.turns-in-Catching.ensures.turns was.found (rw was.found at w.handler.ensures) w.turn_catch-turn.ensures.gate fits
            w.turn_catch-turn.ensures.left w.turn_catch-turn.ensures.pending (w.turn_catch-turn.ensures.grows rule) (λ status before making. w.turn_catch-turn.ensures.gives rule status before fits making) was);
        gate = w.catch_turned-moved.ensures.gate ∙ w.turn_catch-turn.ensures.gate;
        falls = w.catch_turned-moved.ensures.falls;
      })
    ] in
    let first_stands = stands_under _ first (record { router = c.self.inside.router.now; turns = c.self.inside.turns }) c.self.inside.underway.live c.args.gate c.self.inside.underway.stage (rw (← c.self.view_is) at stands) in
    let now = c.loop-stage.invariant.2 rule first fits (rw c.set_gate.ensures first_stands) in
    let moves = stepped.leads rule first (rw c.loop-stage.invariant.0 fits) now in
    let waits = moves_wait _ first (record { router = c.self.inside.router.now; turns = c.self.inside.turns }) c.match-stage.live c.match-stage.moved c.in-Pending.next c.in-Pending.is moves in
    rw (← c.self.view_is) (refl, stepped.gate ∙ c.loop-stage.invariant.0, waits_stand _ first (record { router = c.self.inside.router.now; turns = c.self.inside.turns }) c.match-stage.live c.in-Pending.next waits, waits)

pub returns-in-Ended : goal.returns-in-Ended
returns-in-Ended g c = λ rule first fits stands.
    let stepped : IsStep g.H.Handler.calling g.K.CatchHandler.calling (record { router = c.self.inside.router.now; turns = c.self.inside.turns }) c.loop-stage.live c.loop-stage.stage c.match-stage.live c.match-stage.moved =
    elim c.match-stage.branch [
      | in-Next w ↦ rw (w.live-is, w.moved-is, w.in-Next.is) (record { leads = w.begin_route-moved.ensures.gives; gate = w.begin_route-moved.ensures.gate; falls = w.begin_route-moved.ensures.falls })
      | in-Trying w ↦ rw (w.live-is, w.moved-is, w.in-Trying.is) (record {
        leads = λ rule first fits was. w.route_turned-moved.ensures.gives rule first
            (trying_turned _ first (record { router = c.self.inside.router.now; turns = c.self.inside.turns }) c.loop-stage.live w.turn_handler-turn.new.ctx w.in-Trying.call.position w.in-Trying.call.task w.turn_handler-turn.new.task w.in-Trying.call.turn w.in-Trying.call.again
            w.route.result.now w.turns.result w.turn_handler-turn.result w.turns.ensures.turns w.route.ensures w.turn_handler-turn.ensures.gate fits w.turn_handler-turn.ensures.left w.turn_handler-turn.ensures.pending
            (w.turn_handler-turn.ensures.grows rule) (λ body before making. w.turn_handler-turn.ensures.gives rule body before fits making) was);
        gate = w.route_turned-moved.ensures.gate ∙ w.turn_handler-turn.ensures.gate;
        falls = w.route_turned-moved.ensures.falls;
      })
      | in-Catch w ↦ rw (w.live-is, w.moved-is, w.in-Catch.is) (record { leads = w.begin_catch-moved.ensures.gives; gate = w.begin_catch-moved.ensures.gate; falls = w.begin_catch-moved.ensures.falls })
      | in-Catching w ↦ rw (w.live-is, w.moved-is, w.in-Catching.is) (record {
        leads = λ rule first fits was. w.catch_turned-moved.ensures.gives rule first
            (catching_turned _ first (record { router = c.self.inside.router.now; turns = c.self.inside.turns }) c.loop-stage.live w.turn_catch-turn.new.ctx w.in-Catching.call.status w.in-Catching.call.position w.in-Catching.call.task w.turn_catch-turn.new.task w.in-Catching.call.turn
            was.catcher w.handler.result.now w.turns-in-Catching.result w.turn_catch-turn.result w.turns-in-Catching.ensures.turns was.found (rw was.found at w.handler.ensures) w.turn_catch-turn.ensures.gate fits
            w.turn_catch-turn.ensures.left w.turn_catch-turn.ensures.pending (w.turn_catch-turn.ensures.grows rule) (λ status before making. w.turn_catch-turn.ensures.gives rule status before fits making) was);
        gate = w.catch_turned-moved.ensures.gate ∙ w.turn_catch-turn.ensures.gate;
        falls = w.catch_turned-moved.ensures.falls;
      })
    ] in
    let first_stands = stands_under _ first (record { router = c.self.inside.router.now; turns = c.self.inside.turns }) c.self.inside.underway.live c.args.gate c.self.inside.underway.stage (rw (← c.self.view_is) at stands) in
    let now = c.loop-stage.invariant.2 rule first fits (rw c.set_gate.ensures first_stands) in
    let moves = stepped.leads rule first (rw c.loop-stage.invariant.0 fits) now in
    rw (← c.self.view_is) (ends_found _ first (record { router = c.self.inside.router.now; turns = c.self.inside.turns }) c.match-stage.live c.in-Ended.response (rw c.in-Ended.is at moves))

pub returns-in-Starved : goal.returns-in-Starved
returns-in-Starved g c = λ rule first fits stands.
    let stepped : IsStep g.H.Handler.calling g.K.CatchHandler.calling (record { router = c.self.inside.router.now; turns = c.self.inside.turns }) c.loop-stage.live c.loop-stage.stage c.match-stage.live c.match-stage.moved =
    elim c.match-stage.branch [
      | in-Next w ↦ rw (w.live-is, w.moved-is, w.in-Next.is) (record { leads = w.begin_route-moved.ensures.gives; gate = w.begin_route-moved.ensures.gate; falls = w.begin_route-moved.ensures.falls })
      | in-Trying w ↦ rw (w.live-is, w.moved-is, w.in-Trying.is) (record {
        leads = λ rule first fits was. w.route_turned-moved.ensures.gives rule first
            (trying_turned _ first (record { router = c.self.inside.router.now; turns = c.self.inside.turns }) c.loop-stage.live w.turn_handler-turn.new.ctx w.in-Trying.call.position w.in-Trying.call.task w.turn_handler-turn.new.task w.in-Trying.call.turn w.in-Trying.call.again
            w.route.result.now w.turns.result w.turn_handler-turn.result w.turns.ensures.turns w.route.ensures w.turn_handler-turn.ensures.gate fits w.turn_handler-turn.ensures.left w.turn_handler-turn.ensures.pending
            (w.turn_handler-turn.ensures.grows rule) (λ body before making. w.turn_handler-turn.ensures.gives rule body before fits making) was);
        gate = w.route_turned-moved.ensures.gate ∙ w.turn_handler-turn.ensures.gate;
        falls = w.route_turned-moved.ensures.falls;
      })
      | in-Catch w ↦ rw (w.live-is, w.moved-is, w.in-Catch.is) (record { leads = w.begin_catch-moved.ensures.gives; gate = w.begin_catch-moved.ensures.gate; falls = w.begin_catch-moved.ensures.falls })
      | in-Catching w ↦ rw (w.live-is, w.moved-is, w.in-Catching.is) (record {
        leads = λ rule first fits was. w.catch_turned-moved.ensures.gives rule first
            (catching_turned _ first (record { router = c.self.inside.router.now; turns = c.self.inside.turns }) c.loop-stage.live w.turn_catch-turn.new.ctx w.in-Catching.call.status w.in-Catching.call.position w.in-Catching.call.task w.turn_catch-turn.new.task w.in-Catching.call.turn
            was.catcher w.handler.result.now w.turns-in-Catching.result w.turn_catch-turn.result w.turns-in-Catching.ensures.turns was.found (rw was.found at w.handler.ensures) w.turn_catch-turn.ensures.gate fits
            w.turn_catch-turn.ensures.left w.turn_catch-turn.ensures.pending (w.turn_catch-turn.ensures.grows rule) (λ status before making. w.turn_catch-turn.ensures.gives rule status before fits making) was);
        gate = w.catch_turned-moved.ensures.gate ∙ w.turn_catch-turn.ensures.gate;
        falls = w.catch_turned-moved.ensures.falls;
      })
    ] in
    let first_stands = stands_under _ first (record { router = c.self.inside.router.now; turns = c.self.inside.turns }) c.self.inside.underway.live c.args.gate c.self.inside.underway.stage (rw (← c.self.view_is) at stands) in
    let now = c.loop-stage.invariant.2 rule first fits (rw c.set_gate.ensures first_stands) in
    let moves = stepped.leads rule first (rw c.loop-stage.invariant.0 fits) now in
    rw c.give_up.ensures (rw c.in-Starved.is at moves)
