use Rattle.rkt_sample.specs.Mounted.{all_catchers, mounted_catcher}
use Rattle.rkt_sample.proofs.Made.{Made}
use Rattle.rkt_sample.proofs.mounted.catchers.Given as goal

abbrev pub invariant-loop-catcher : goal.invariant-loop-catcher
invariant-loop-catcher l = Made mounted_catcher l.catchers.items l.catcher-index l.catcher-items all_catchers
