use Rattle.std.proofs.Common.{◌≡◌}
use Rattle.rkt_router.specs.Calls.{GateFits, GateRule}
use Rattle.rkt_routing.specs.Beginning.{Beginning}
use Rattle.rkt_routing.specs.Ranks.{rank}
use Rattle.rkt_routing.specs.Relations.{relations}
use Rattle.rkt_routing.specs.Invariant.{IsSoundAt, InvariantAt}
use Rattle.rkt_routing.proofs.routing.RoutingOf.poll.Given as goal

-- the Gate stays; routing stands for some beginning, and for each that it stood for at first
abbrev pub invariant-loop-stage : goal.invariant-loop-stage
invariant-loop-stage g l =
    (l.live.ctx.gate ≡ l.fn.gate) × IsSoundAt g.H.Handler.calling g.K.CatchHandler.calling l.table l.live l.stage
    × ((rule : GateRule) (first : Beginning _ _ _) → GateFits rule l.fn.gate
    → InvariantAt (relations g.H.Handler.calling g.K.CatchHandler.calling rule) first l.table l.initial.live l.initial.stage
    → InvariantAt (relations g.H.Handler.calling g.K.CatchHandler.calling rule) first l.table l.live l.stage)

abbrev pub decreases-loop-stage : goal.decreases-loop-stage
decreases-loop-stage g l = rank l.table l.stage
