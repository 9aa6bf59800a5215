use Rattle.std.proofs.lemmas.List.{take_more}
use Rattle.rkt_ignition.proofs.Layers.{item_so, one_more}
use Rattle.rkt_ignition.proofs.asking.ask_all.Goals as goal

pub loop-at-preserved : goal.loop-at-preserved
loop-at-preserved g c =
    one_more g.S.Aborts.may c.args.sentries.now c.args.rocket.now _ _ _ _ _ c.ask.result (take_more c.args.asked.now c.loop-at.at-index 0 c.loop-at-test.true) c.in_ok-push.ensures.ok c.loop-at.invariant
    (item_so c.args.sentries.now _ _ c.get.result c.get.ensures.lookup c.ask.ensures)
