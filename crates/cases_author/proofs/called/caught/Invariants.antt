use Rattle.std.proofs.Common.{◌<◌}
use Rattle.rkt_request.specs.Lent.{Kept}
use Rattle.rkt_router.specs.Calls.{Making, any_gate}
use Rattle.cases_author.proofs.called.caught.Given as goal

-- while a turn is left, the call is under way
abbrev pub invariant-loop-turn : goal.invariant-loop-turn
invariant-loop-turn g l = l.turn < l.turns → (before : Kept _) × Making g.C.CatchHandler.calling any_gate l.turns l.catcher (record { status = l.fn.status; request = l.request }) before l.task l.ctx.kept l.turn
