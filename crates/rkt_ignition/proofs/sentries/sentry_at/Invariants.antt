use Rattle.std.proofs.Common.{◌≡◌, drop, slice_get}
use Rattle.rkt_ignition.specs.Aborted.{sentries_of}
use Rattle.rkt_ignition.proofs.sentries.sentry_at.Given as goal

abbrev pub invariant-loop-route : goal.invariant-loop-route
invariant-loop-route g l = slice_get (sentries_of (drop l.route-index l.routes)) l.left ≡ slice_get (sentries_of l.routes) l.position
