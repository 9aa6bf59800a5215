-- What the steps of an ignition leave.
use Rattle.std.specs.Prelude.{◌≡◌, ◌≢◌, ◌⊎◌, [], List, Option, None, Some, map}
use Rattle.rkt_http.specs.declared.key.Key.{Key}
use Rattle.rkt_fairing.specs.Fairings.{SeenFairings}
use Rattle.rkt_fairing.specs.Info.{SeenInfo, seen_info}
use Rattle.rkt_ignition.specs.Calls.{CallingAtIgnition, SeenCall}
use Rattle.rkt_ignition.specs.Ignites.{CallsNext, Igniting, IgnitesAll, IgnitesTooMany, Waits, with_others}
use Rattle.rkt_ignition.specs.declared.error.IgniteError.{IgniteError}
use Rattle.rkt_ignition.specs.declared.error.IgniteError.TheVariants.{IgniteLimit, FailedFairings, Config, Collisions, SentinelAborts}
use Rattle.rkt_ignition.specs.declared.rounds.Rounds.{Rounds}
use Rattle.rkt_ignition.specs.declared.rounds.Rounds.TheVariants.{Over, TooMany}

-- where none waits, those that were attached meanwhile were added
abbrev pub Settles : {H K N V F : Type 0} → (F → Key) → (F → SeenInfo) → Igniting H K N V F → Igniting H K N V F → Type 0
Settles key info before after =
    (Waits before.attached × (after ≡ before)) ⊎ (¬ Waits before.attached × (after ≡ with_others key info before))

-- the next call, behind those that were added, or none where none waits
abbrev pub IsNext : {H K N V F Task : Type 0}
    → CallingAtIgnition H K N V F Task → (F → Key) → (F → SeenInfo) → Igniting H K N V F → Option SeenCall → Igniting H K N V F
    → Type 0
IsNext calling key info before None after = Settles key info before after × ¬ Waits after.attached
IsNext {H = H} {K = K} {N = N} {V = V} {F = F} calling key info before (Some call) after =
    (now : Igniting H K N V F) × Settles key info before now × CallsNext calling info now call after

-- how the calls of an ignition ended
abbrev pub RoundsEnd : {H K N V F Task : Type 0}
    → CallingAtIgnition H K N V F Task → (F → Key) → (F → SeenInfo) → Igniting H K N V F → Rounds → Igniting H K N V F → Type 0
RoundsEnd calling key info beginning (Over calls) now = IgnitesAll calling key info beginning calls now
RoundsEnd calling key info beginning (TooMany calls) now = IgnitesTooMany calling key info beginning calls now

-- some have failed, and these are they, beside the calls
abbrev pub RefusesFairings : {F : Type 0} → SeenFairings F → List SeenCall → IgniteError → Type 0
RefusesFairings fairings made (FailedFairings infos calls) =
    (map seen_info infos ≡ fairings.failures) × (fairings.failures ≢ []) × (calls ≡ made)
RefusesFairings fairings made (IgniteLimit calls) = ⊥
RefusesFairings fairings made (Config bad) = ⊥
RefusesFairings fairings made (Collisions found) = ⊥
RefusesFairings fairings made (SentinelAborts aborted) = ⊥

-- too many were called, or some have failed
abbrev pub RefusesRounds : {F : Type 0} → SeenFairings F → Rounds → IgniteError → Type 0
RefusesRounds fairings (TooMany made) (IgniteLimit calls) = calls ≡ made
RefusesRounds fairings (TooMany made) (FailedFairings infos calls) = ⊥
RefusesRounds fairings (TooMany made) (Config bad) = ⊥
RefusesRounds fairings (TooMany made) (Collisions found) = ⊥
RefusesRounds fairings (TooMany made) (SentinelAborts aborted) = ⊥
RefusesRounds fairings (Over made) error = RefusesFairings fairings made error

-- all that waited were called, and none has failed
abbrev pub HavePassed : {F : Type 0} → SeenFairings F → Rounds → Type 0
HavePassed fairings (Over made) = fairings.failures ≡ []
HavePassed fairings (TooMany made) = ⊥

-- Why the calls of an ignition are refused.
abbrev pub RefusesCalls : {H K N V F Task : Type 0}
    → CallingAtIgnition H K N V F Task → (F → Key) → (F → SeenInfo) → Igniting H K N V F → Igniting H K N V F → IgniteError
    → Type 0
RefusesCalls calling key info beginning now (IgniteLimit calls) = IgnitesTooMany calling key info beginning calls now
RefusesCalls calling key info beginning now (FailedFairings infos calls) =
    IgnitesAll calling key info beginning calls now
    × (map seen_info infos ≡ now.attached.failures)
    × (now.attached.failures ≢ [])
RefusesCalls calling key info beginning now (Config bad) = ⊥
RefusesCalls calling key info beginning now (Collisions found) = ⊥
RefusesCalls calling key info beginning now (SentinelAborts aborted) = ⊥
