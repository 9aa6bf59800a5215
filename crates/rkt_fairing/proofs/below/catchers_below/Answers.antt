use Rattle.std.proofs.Common.{arith}
use Rattle.std.proofs.lemmas.Grind.{common_steps}
use Rattle.rkt_fairing.proofs.Moving.{moving_begins, moving_ends, moving_goes_on}
use Rattle.rkt_fairing.proofs.below.catchers_below.Goals as goal

pub loop-catcher-init : goal.loop-catcher-init
loop-catcher-init g c = moving_begins _ _ _ _ c.new-moved.ensures.items c.into_iter-catcher-iterator.ensures.into_iter_gives.0

pub loop-catcher-preserved : goal.loop-catcher-preserved
loop-catcher-preserved g c =
    moving_goes_on _ _ _ _ _ _ c.in-Some.catcher c.in_ok-catcher_below.field-0 c.loop-catcher.invariant c.in-Some.ensures.steps.0 c.in_ok-catcher_below.ensures c.in_ok-push.ensures.items

pub returns : goal.returns
returns g c = moving_ends _ _ _ _ c.loop-catcher.invariant (grind (arith, common_steps))
