-- A launch of the sample leaves it the sample: the shield alone is called at liftoff, and does not change.
use Rattle.std.proofs.Common.{◌≡◌, ◌∙◌, ℕ, List, [], ◌∷◌, Some, ap, sym, subst}
use Rattle.std.proofs.lemmas.Option.{same_Some}
use Rattle.rkt_config.specs.Config.{IsConfig}
use Rattle.rkt_fairing.specs.Fairings.{with_fairing_at}
use Rattle.rkt_fairing.specs.Life.{SeenView}
use Rattle.rkt_fairing.specs.declared.callback.Callback.TheVariants.{Liftoff}
use Rattle.rkt_fairing.specs.declared.slot.Slot.{Slot}
use Rattle.rkt_fairing.specs.declared.slot.Slot.TheVariants.{Shield}
use Rattle.rkt_life.specs.Rocket.{SeenRocket}
use Rattle.rkt_life.specs.declared.no_fairing.NoFairing.{NoFairing}
use Rattle.rkt_fairing.specs.Calls.{CalledAtLiftoff, CallingAtLiftoff}
use Rattle.rkt_fairing.specs.Lifts.{Lifting, Lifts, LiftsAt}
use Rattle.rkt_fairing.specs.declared.called.Called.{Called}
use Rattle.rkt_sample.specs.declared.catcher.SampleCatcher.{SampleCatcher}
use Rattle.rkt_sample.specs.declared.route.SampleRoute.{SampleRoute}
use Rattle.rkt_serve.specs.Lifted.{LiftsOff}
use Rattle.rkt_shield.specs.Shield.{default_headers}
use Rattle.rkt_turn.specs.Shutdown.{Handle}
use Rattle.rkt_demo.specs.Sample.{IsSample, shield_alone}
use Rattle.rkt_script.specs.Words.{Table}

module _ {Task : Type 0} (calling : CallingAtLiftoff SampleRoute SampleCatcher (Unit {0}) ℕ NoFairing Task) (view : SeenView SampleRoute SampleCatcher (Unit {0}) ℕ) (handle : Handle) where
  shield_left : (called : Called) (slot left : Slot NoFairing) (after : Handle) → Some (Shield default_headers) ≡ Some slot → CalledAtLiftoff calling view slot handle called left after → left ≡ Shield default_headers
  shield_left called slot left after there gives =
      (subst (λ (s : Slot NoFairing). CalledAtLiftoff calling view s handle called left after) (sym (same_Some (Shield default_headers) slot there)) gives).1

  one_stays : (called : Called) (next : Lifting NoFairing) → LiftsAt calling view 0 (record { fairings = shield_alone; shutdown = handle }) called next → next.fairings ≡ shield_alone
  one_stays called next at = at.fairings ∙ ap (λ s. with_fairing_at Liftoff shield_alone 0 s) (shield_left called at.slot at.left next.shutdown at.there at.gives)

  pub shield_stays : (calls : List Called) (after : Lifting NoFairing) → Lifts calling view (record { fairings = shield_alone; shutdown = handle }) calls after → after.fairings ≡ shield_alone
  shield_stays [] after lifts = absurd (cc lifts.all)
  shield_stays (called ∷ []) after lifts = ap (λ (l : Lifting NoFairing). l.fairings) lifts.chain.2 ∙ one_stays called lifts.chain.0 lifts.chain.1
  shield_stays (called ∷ other ∷ calls) after lifts = absurd (cc lifts.all)

-- what is lifted off is the sample still
pub sample_lifted : {Task : Type 0} (calling : CallingAtLiftoff SampleRoute SampleCatcher (Unit {0}) ℕ NoFairing Task) (table : Table) (rocket after : SeenRocket NoFairing SampleRoute SampleCatcher (Unit {0}) ℕ) (calls : List Called) (left : Handle)
    → IsSample table rocket.tables → LiftsOff calling rocket calls left after → IsSample table after.tables
sample_lifted calling table rocket after calls left sample lifts = record {
  routes = ap (λ t. t.router.routes) lifts.tables ∙ sample.routes;
  catchers = ap (λ t. t.router.catchers) lifts.tables ∙ sample.catchers;
  fairings = shield_stays calling _ rocket.handle calls (record { fairings = after.tables.fairings; shutdown = left }) (rw sample.fairings at lifts.lifts);
  config = subst (IsConfig table) (sym (ap (λ t. t.config) lifts.tables)) sample.config;
  managed = ap (λ t. t.managed) lifts.tables ∙ sample.managed;
}
