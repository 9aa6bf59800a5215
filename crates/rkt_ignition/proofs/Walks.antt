-- How the calls of an ignition go on, and how they end.
use Rattle.std.proofs.Common.{◌≡◌, ◌≤◌, ◌∷◌, ◌++◌, [], List, None, Some, ap, inl, inr, length, subst, sym}
use Rattle.rkt_http.specs.declared.key.Key.{Key}
use Rattle.rkt_fairing.specs.Info.{SeenInfo}
use Rattle.rkt_ignition.specs.Calls.{CallingAtIgnition, SeenCall}
use Rattle.rkt_ignition.specs.Ignites.{Igniting, Ignites, IgnitesAll, IgnitesTooMany, IsOver, Waits, adds_others, calls_next, ignite_calls}
use Rattle.rkt_ignition.specs.Rounds.{IsNext, Settles}

module _ {H K N V F Task : Type 0} (calling : CallingAtIgnition H K N V F Task) (key : F → Key) (info : F → SeenInfo) where
  pub settles_on : (beginning now next : Igniting H K N V F) (calls : List SeenCall) → Ignites calling key info beginning calls now → Settles key info now next → Ignites calling key info beginning calls next
  settles_on beginning now next calls walk (inl stays) = subst (Ignites calling key info beginning calls) (sym stays.1) walk
  settles_on beginning now next calls walk (inr adds) = subst (Ignites calling key info beginning calls) (sym adds.1) (adds_others walk adds.0)

  pub goes_on : (beginning now next : Igniting H K N V F) (calls more : List SeenCall) (call : SeenCall) → Ignites calling key info beginning calls now → IsNext calling key info now (Some call) next → more ≡ calls ++ call ∷ []
      → Ignites calling key info beginning more next
  goes_on beginning now next calls more call walk (settled, settles, called) is =
      subst (λ (l : List SeenCall). Ignites calling key info beginning l next) (sym is) (calls_next (settles_on beginning now settled calls walk settles) called)

  pub is_over : (now next : Igniting H K N V F) → Settles key info now next → ¬ Waits next.attached → IsOver next
  is_over now next (inl stays) none = absurd (none (subst (λ (i : Igniting H K N V F). Waits i.attached) (sym stays.1) stays.0))
  is_over now next (inr adds) none = record { none_waits = none; none_attached = ap (λ (i : Igniting H K N V F). i.building.fairings.slots) adds.1 }

  pub all_made : (beginning now next : Igniting H K N V F) (calls : List SeenCall) → Ignites calling key info beginning calls now → length calls ≤ ignite_calls → Settles key info now next → ¬ Waits next.attached
      → IgnitesAll calling key info beginning calls next
  all_made beginning now next calls walk within settles none = record {
    ignites = settles_on beginning now next calls walk settles;
    over = is_over now next settles none;
    within = within;
  }

  pub none_left : (beginning now next : Igniting H K N V F) (calls : List SeenCall) → Ignites calling key info beginning calls now → length calls ≤ ignite_calls → IsNext calling key info now None next
      → IgnitesAll calling key info beginning calls next
  none_left beginning now next calls walk within is = all_made beginning now next calls walk within is.0 is.1

  pub too_many : (beginning now next : Igniting H K N V F) (calls : List SeenCall) → Ignites calling key info beginning calls now → length calls ≡ ignite_calls → Settles key info now next → Waits next.attached
      → IgnitesTooMany calling key info beginning calls next
  too_many beginning now next calls walk all settles waits = record {
    ignites = settles_on beginning now next calls walk settles;
    all = all;
    waits = waits;
  }
