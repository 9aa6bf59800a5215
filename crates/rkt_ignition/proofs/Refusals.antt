-- What the steps of an ignition say of the whole.
use Rattle.std.proofs.Common.{◌≡◌, ◌∙◌, [], List, Bool, Result, Ok, Err, IsErrAnd, IfOk, ap, subst}
use Rattle.rkt_base.specs.Want.{IfRefused}
use Rattle.rkt_base.specs.declared.want.Want.{Want}
use Rattle.rkt_base.specs.declared.want.Want.TheVariants.{Refused, NoMemory}
use Rattle.rkt_http.specs.declared.key.Key.{Key}
use Rattle.rkt_ignition.specs.Sentinels.{SeenIgnited}
use Rattle.rkt_fairing.specs.Building.{SeenBuilding}
use Rattle.rkt_fairing.specs.Fairings.{SeenFairings, no_fairings}
use Rattle.rkt_fairing.specs.Info.{SeenInfo}
use Rattle.rkt_ignition.specs.Calls.{CallingAtIgnition, SeenCall}
use Rattle.rkt_ignition.specs.Ignited.{IsAccepted, IsIgnited, IsMadeOf, IsRefused, Passes, RefusesLeft, RefusesParts, RefusesTable}
use Rattle.rkt_ignition.specs.Ignites.{Igniting, IgnitesAll, IgnitesTooMany, igniting}
use Rattle.rkt_ignition.specs.Rounds.{RefusesCalls}
use Rattle.rkt_ignition.specs.declared.error.IgniteError.{IgniteError}
use Rattle.rkt_ignition.specs.declared.error.IgniteError.TheVariants.{IgniteLimit, FailedFairings, Config, Collisions, SentinelAborts}
use Rattle.rkt_ignition.specs.declared.parts.IgnitedPartsOf.{IgnitedPartsOf}

-- a refusal that is handed on says what follows of what it said
pub handed_on : {T U E : Type 0} (a : Result T (Want E)) (b : Result U (Want E)) (e : Want E) (P Q : E → Type 0) → a ≡ Err e → IsErrAnd b (λ f. f ≡ e) → ((x : E) → P x → Q x) → IfRefused a P → IfRefused b Q
handed_on a (Err f) (Refused r) P Q was also so said = rw also (so r (rw was at said))
handed_on a (Err f) NoMemory P Q was also so said = rw also tt
handed_on a (Ok x) e P Q was also so said = absurd also

-- the same of one call
pub refused_so : {T E : Type 0} (a : Result T (Want E)) (P Q : E → Type 0) → ((x : E) → P x → Q x) → IfRefused a P → IfRefused a Q
refused_so (Ok x) P Q so said = tt
refused_so (Err (Refused e)) P Q so said = so e said
refused_so (Err NoMemory) P Q so said = tt

module _ {H K N V F : Type 0} (May : N → SeenIgnited V → Bool → Type 0) (end : Igniting H K N V F) where
  pub table_refused : (e : IgniteError) → RefusesTable end.building.table e → RefusesLeft May end e
  table_refused (Config bad) is = is
  table_refused (IgniteLimit calls) is = absurd is
  table_refused (FailedFairings infos calls) is = absurd is
  table_refused (Collisions found) is = absurd is
  table_refused (SentinelAborts aborted) is = absurd is

  pub parts_refused : (parts : IgnitedPartsOf F H K N V) → IsMadeOf end parts → (e : IgniteError) → RefusesParts May parts e → RefusesLeft May end e
  parts_refused parts made (Collisions found) is = (parts, made, is)
  parts_refused parts made (SentinelAborts aborted) is = (parts, made, is)
  parts_refused parts made (IgniteLimit calls) is = absurd is
  parts_refused parts made (FailedFairings infos calls) is = absurd is
  parts_refused parts made (Config bad) is = absurd is

-- the fairings were taken out of the builder
pub begins_so : {H K N V F : Type 0} (building seen : SeenBuilding H K N V F) (taken none : SeenFairings F) → seen ≡ building → taken ≡ seen.fairings → none ≡ no_fairings
    → record { attached = taken; building = record seen { fairings = none } } ≡ igniting building
begins_so {H} {K} {N} {V} {F} building seen taken none is is_taken is_none =
    let start : SeenFairings F → SeenFairings F → Igniting H K N V F = λ attached others. record { attached = attached; building = record seen { fairings = others } } in
    ap (λ (t : SeenFairings F). start t none) is_taken ∙ ap (start seen.fairings) is_none ∙ ap igniting is

module _ {H K N V F Task : Type 0} (calling : CallingAtIgnition H K N V F Task) (key : F → Key) (info : F → SeenInfo) (May : N → SeenIgnited V → Bool → Type 0) (building : SeenBuilding H K N V F)
    (start end : Igniting H K N V F) (is : start ≡ igniting building) where
  pub calls_refused : (e : IgniteError) → RefusesCalls calling key info start end e → IsRefused calling key info May building e
  calls_refused (IgniteLimit calls) refuses = (end, subst (λ (s : Igniting H K N V F). IgnitesTooMany calling key info s calls end) is refuses)
  calls_refused (FailedFairings infos calls) refuses = (end, subst (λ (s : Igniting H K N V F). IgnitesAll calling key info s calls end) is refuses.0, refuses.1, refuses.2)
  calls_refused (Config bad) refuses = absurd refuses
  calls_refused (Collisions found) refuses = absurd refuses
  calls_refused (SentinelAborts aborted) refuses = absurd refuses

  module _ (calls : List SeenCall) (all : IgnitesAll calling key info start calls end) (none_failed : end.attached.failures ≡ []) where
    passes : Passes calling key info May building calls end
    passes = record { all = subst (λ (s : Igniting H K N V F). IgnitesAll calling key info s calls end) is all; none_failed = none_failed }

    pub left_refused : (e : IgniteError) → RefusesLeft May end e → IsRefused calling key info May building e
    left_refused (Config bad) refuses = (calls, end, passes, refuses)
    left_refused (Collisions found) refuses = (calls, end, passes, refuses)
    left_refused (SentinelAborts aborted) refuses = (calls, end, passes, refuses)
    left_refused (IgniteLimit calls) refuses = absurd refuses
    left_refused (FailedFairings infos calls) refuses = absurd refuses

    pub all_ignited : {E : Type 0} (r : Result (IgnitedPartsOf F H K N V) E) → IfOk r (IsMadeOf end) → IfOk r (IsAccepted May) → IfOk r (IsIgnited calling key info May building)
    all_ignited (Ok parts) made accepted = record { calls = calls; end = end; passes = passes; made = made; accepted = accepted }
    all_ignited (Err e) made accepted = tt
