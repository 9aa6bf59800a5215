use Rattle.std.proofs.Common.{◌≡◌, Some, refl, sym, ◌∙◌, arith}
use Rattle.std.specs.Prelude.{slice_get}
use Rattle.std.proofs.lemmas.Bool.{false≢true}
use Rattle.std.proofs.lemmas.Option.{slice_get_read}
use Rattle.rkt_router.proofs.Choices.{best_chosen, catches_here, catches_not, passes_over, takes_over, stays}
use Rattle.rkt_router.proofs.chosen.chosen.Goals as goal
use Rattle.rkt_router.proofs.chosen.chosen.Goals.{then-beats_best, else-beats_best}

pub loop-position-preserved-then-not-catches : goal.loop-position-preserved-then-not-catches
loop-position-preserved-then-not-catches g c =
    let here : slice_get c.args.catchers.now c.loop-position.position ≡ Some c.index-catchers-position.result =
    slice_get_read _ _ _ _ refl c.loop-position-test.true c.index-catchers-position.is in
    passes_over c.args.catchers.now c.args.status.code c.args.request.now c.loop-position.position _
    (catches_not c.args.catchers.now c.args.status.code c.args.request.now c.loop-position.position c.index-catchers-position.result here
    (λ catches. false≢true (sym c.if-not-catches.true ∙ c.catches.ensures.1 catches)))
    c.loop-position.invariant

pub loop-position-preserved : goal.loop-position-preserved
loop-position-preserved g c =
    let here : slice_get c.args.catchers.now c.loop-position.position ≡ Some c.index-catchers-position.result =
    slice_get_read _ _ _ _ refl c.loop-position-test.true c.index-catchers-position.is in
    elim c.if-beats_best.branch [
      | then-beats_best w ↦ rw w.best-is (takes_over c.args.catchers.now c.args.status.code c.args.request.now c.loop-position.position _
          (catches_here c.args.catchers.now c.args.status.code c.args.request.now c.loop-position.position c.index-catchers-position.result here (c.catches.ensures.0 c.if-not-catches.false))
          (c.beats_best.ensures.0 w.if-beats_best.true) c.loop-position.invariant)
      | else-beats_best w ↦ rw w.best-is (stays c.args.catchers.now c.args.status.code c.args.request.now c.loop-position.position _
          (λ beats. false≢true (sym w.if-beats_best.false ∙ c.beats_best.ensures.1 beats)) c.loop-position.invariant)
    ]

pub returns : goal.returns
returns g c = best_chosen c.args.catchers.now c.args.status.code c.args.request.now c.loop-position.position c.loop-position.best (omega arith) c.loop-position.invariant
