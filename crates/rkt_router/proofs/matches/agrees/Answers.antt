use Rattle.std.proofs.Common.{◌≡◌, Some, refl, sym, ◌∙◌}
use Rattle.std.specs.Prelude.{slice_get}
use Rattle.std.proofs.lemmas.Bool.{false≢true}
use Rattle.std.proofs.lemmas.Option.{slice_get_read}
use Rattle.rkt_router.proofs.Paths.{names_end, walk_fails, walk_on}
use Rattle.rkt_router.proofs.matches.agrees.Goals as goal

pub returns-in_default : goal.returns-in_default
returns-in_default c = (λ _. c.loop-at.invariant.1 (names_end c.args.segments.now c.args.names.now c.loop-at.at (sym c.in_default.ensures)), λ _. refl)

pub returns-then-not-stands_for : goal.returns-then-not-stands_for
returns-then-not-stands_for c =
    let here : slice_get c.args.segments.now c.loop-at.at ≡ Some c.index-segments-at.result = slice_get_read _ _ _ _ refl c.loop-at-test.true c.index-segments-at.is in (
      λ e. absurd (false≢true e),
      λ h. absurd (walk_fails c.args.segments.now c.args.names.now c.loop-at.at c.index-segments-at.result c.in-Some.name.now _ here c.if-segment.false (sym c.in-Some.ensures)
          (λ stands. false≢true (sym c.if-not-stands_for.true ∙ c.stands_for.ensures.1 stands)) c.loop-at.invariant h),
    )

pub loop-at-preserved : goal.loop-at-preserved
loop-at-preserved c =
    let here : slice_get c.args.segments.now c.loop-at.at ≡ Some c.index-segments-at.result = slice_get_read _ _ _ _ refl c.loop-at-test.true c.index-segments-at.is in
    walk_on c.args.segments.now c.args.names.now c.loop-at.at c.index-segments-at.result c.in-Some.name.now _ here c.if-segment.false (sym c.in-Some.ensures)
    (c.stands_for.ensures.0 c.if-not-stands_for.false) c.loop-at.invariant
