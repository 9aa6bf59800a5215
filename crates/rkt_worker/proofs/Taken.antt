-- What comes of asking a link for its source that nothing has cut off.
use Rattle.std.proofs.Common.{◌≡◌, inl, inr, Option, None, Result, ap, sym, subst, ◌∙◌, MutBor}
use Rattle.std.specs.Fn.{Once, FnOnceReturnsAtMut}
use Rattle.rkt_base.specs.declared.poll.Poll.{Poll}
use Rattle.rkt_base.specs.declared.poll.Poll.TheVariants.{Ready, Pending}
use Rattle.rkt_source.specs.Cancel.{Cancellable, Cancels, ClosedAt, advanced, granted, noticed, run_out}
use Rattle.rkt_source.specs.declared.stage.Refused.{Refused}
use Rattle.rkt_source.specs.declared.stage.Stage.{Stage}
use Rattle.rkt_source.specs.declared.stage.Stage.TheVariants.{Active}
use Rattle.rkt_link.specs.Link.{LinkMeaning}
use Rattle.rkt_source.specs.Source.{Meaning}
use Rattle.rkt_source.specs.declared.source.Gate.{Gate}
use Rattle.rkt_worker.specs.Taking.{AnswersNow, TakenAs}

-- under a Gate that shows no trip a link stays as it is that nothing has cut off
stays : (gate : Gate) (stage : Stage) → stage ≡ Active → gate.tripped ≡ None → advanced gate stage ≡ Active
stays gate stage active untripped =
    ap (λ (s : Stage). run_out gate.grace gate.moment (noticed gate.tripped gate.moment s)) active
    ∙ ap (λ trip. run_out gate.grace gate.moment (noticed trip gate.moment Active)) untripped

module _ {K S : Type 0} (links : K → LinkMeaning) (sources : S → Meaning) (shuts : K → Poll (Unit {0}) → K → Type 0) (gate : Gate) (old new : Cancellable K) where
  granted_now : (r : Poll (Option S)) → new.stage ≡ Active → AnswersNow sources (links old.io) r (links new.io) → TakenAs links sources old (granted r) new
  granted_now Pending active none = none
  granted_now (Ready answer) active takes = (active, takes)

  -- the machine asks it
  pub takes_now : {F : Type 0} (call : Once F (MutBor K × Unit {0}) (Poll (Option S) × (MutBor K × Unit {0}))) (f : F)
      → (answer : Poll (Result (Option S) Refused)) → old.stage ≡ Active → gate.tripped ≡ None → Cancels shuts (FnOnceReturnsAtMut call f) gate old new answer
      → ((r : Poll (Option S)) (p q : MutBor K) → call.post f (p, tt) (r, (q, tt)) → AnswersNow sources (links p.now) r (links q.now))
      → TakenAs links sources old answer new
  takes_now call f answer active untripped (inl (open_at, stage, made)) asks =
      let called = made.1 in
      let asked = asks made.0 called.shown called.left called.met in
      let link : AnswersNow sources (links old.io) made.0 (links new.io) =
      subst (λ (k : K). AnswersNow sources (links k) made.0 (links new.io)) called.shows (subst (λ (k : K). AnswersNow sources (links called.shown.now) made.0 (links k)) called.leaves asked) in
      subst (λ (a : Poll (Result (Option S) Refused)). TakenAs links sources old a new) (sym made.2)
      (granted_now made.0 (stage ∙ stays gate old.stage active untripped) link)
  takes_now call f answer active untripped (inr (refusal, closed, is)) asks =
      absurd (subst (λ (s : Stage). ClosedAt shuts gate s old.io new refusal) (stays gate old.stage active untripped) closed)
