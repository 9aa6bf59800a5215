use Rattle.std.proofs.Common.{refl, sym, ◌∙◌, arith}
use Rattle.std.proofs.lemmas.Bool.{false≢true}
use Rattle.std.proofs.lemmas.Option.{slice_get_read}
use Rattle.rkt_route.proofs.Pairs.{adds_pair, begin_row, collides_decided, end_row, passes_pair}
use Rattle.rkt_route.proofs.collisions.add_pairs.Goals as goal
use Rattle.rkt_route.proofs.collisions.add_pairs.Goals.{then-collides_with+in_ok-push, else-collides_with}

pub loop-second-init : goal.loop-second-init
loop-second-init g c = begin_row g.X.Collide.collides c.args.items.now c.args.first c.args.pairs.now c.requires.pairs

pub loop-second-preserved : goal.loop-second-preserved
loop-second-preserved g c =
    let law = collides_decided g.X.Collide.collides c.args.items.now c.args.first c.loop-second.second c.index-items-first.result c.index-items-second.result c.collides_with.result (omega arith)
    (slice_get_read _ _ _ _ refl c.requires.first c.index-items-first.is) (slice_get_read _ _ _ _ refl c.loop-second-test.true c.index-items-second.is) c.collides_with.ensures in
    elim c.if-collides_with.branch [
      | then-collides_with+in_ok-push w ↦ rw w.pairs-is (adds_pair g.X.Collide.collides c.args.items.now c.args.first c.loop-second.second c.loop-second.pairs _ w.in_ok-push.ensures.ok
          (law.0 w.if-collides_with.true) c.loop-second.invariant)
      | else-collides_with w ↦ rw w.pairs-is (passes_pair g.X.Collide.collides c.args.items.now c.args.first c.loop-second.second c.loop-second.pairs
          (λ h. false≢true (sym w.if-collides_with.false ∙ law.1 h)) c.loop-second.invariant)
    ]

pub returns : goal.returns
returns g c = end_row g.X.Collide.collides c.args.items.now c.args.first c.loop-second.second c.loop-second.pairs (omega arith) c.loop-second.invariant
