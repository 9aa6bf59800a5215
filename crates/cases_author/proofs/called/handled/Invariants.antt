use Rattle.std.proofs.Common.{◌<◌}
use Rattle.rkt_request.specs.Lent.{Kept}
use Rattle.rkt_router.specs.Calls.{Making, any_gate}
use Rattle.cases_author.proofs.called.handled.Given as goal

-- while a turn is left, the call is under way
abbrev pub invariant-loop-turn : goal.invariant-loop-turn
invariant-loop-turn g l = l.turn < l.turns → (body : _) × (before : Kept _) × Making g.H.Handler.calling any_gate l.turns l.handler (record { request = l.request; body = body }) before l.task l.ctx.kept l.turn
