use Rattle.rkt_fairing.specs.Below.{catcher_below}
use Rattle.rkt_fairing.proofs.Moving.{MovesOn}
use Rattle.rkt_fairing.proofs.below.catchers_below.Given as goal

abbrev pub invariant-loop-catcher : goal.invariant-loop-catcher
invariant-loop-catcher g l = MovesOn (catcher_below l.base.path) l.moved.items l.catcher-iterator.rest.items l.fn.catchers.items
