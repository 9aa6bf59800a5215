use Rattle.std.proofs.lemmas.List.{take_more}
use Rattle.rkt_ignition.specs.Aborted.{sentries_of}
use Rattle.rkt_ignition.proofs.Layers.{one_more}
use Rattle.rkt_ignition.proofs.OfRoutes.{copied_so}
use Rattle.rkt_ignition.proofs.sentries.ask_all.Goals as goal

pub loop-at-preserved : goal.loop-at-preserved
loop-at-preserved g c =
    one_more g.N.Aborts.may (sentries_of c.args.routes.now) c.args.rocket.now _ _ _ _ _ c.ask.result (take_more c.args.asked.now c.loop-at.at-index 0 c.loop-at-test.true) c.in_ok-push.ensures.ok c.loop-at.invariant
    (copied_so c.sentry_at.result _ _ c.sentry_at.ensures c.ask.ensures)
