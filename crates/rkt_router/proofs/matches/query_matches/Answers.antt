use Rattle.std.proofs.Common.{refl, sym, ◌∙◌, arith}
use Rattle.std.specs.List.{IsAmong}
use Rattle.std.proofs.lemmas.Bool.{false≢true}
use Rattle.rkt_uri.specs.Origin.{fields_of}
use Rattle.rkt_router.proofs.Decided.{within_on, not_all}
use Rattle.rkt_router.proofs.matches.query_matches.Goals as goal

pub returns-then-not-has_field : goal.returns-then-not-has_field
returns-then-not-has_field g c = (
  λ e. absurd (false≢true e),
  λ h. absurd (not_all (IsAmong (fields_of c.args.request.now.uri)) _ _ _ c.loop-field-test.true c.field-item.is
      (λ among. false≢true (sym c.if-not-has_field.true ∙ c.has_field.ensures.1 among)) h),
)

pub loop-field-preserved : goal.loop-field-preserved
loop-field-preserved g c =
    within_on (IsAmong (fields_of c.args.request.now.uri)) _ _ _ c.loop-field-test.true c.field-item.is (c.has_field.ensures.0 c.if-not-has_field.false) c.loop-field.invariant

pub returns : goal.returns
returns g c = (λ _ k d below. c.loop-field.invariant k d (omega arith) (omega arith), λ _. refl)
