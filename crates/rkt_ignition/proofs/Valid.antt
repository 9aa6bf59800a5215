-- What is valid is not refused.
use Rattle.std.proofs.Common.{◌≡◌, ◌∙◌, ◌∷◌, ℕ, [], List, Bool, Result, ap, refl, sym}
use Rattle.std.proofs.lemmas.Option.{none-some}
use Rattle.rkt_base.specs.Want.{IfRefused}
use Rattle.rkt_base.specs.declared.want.Want.{Want}
use Rattle.rkt_http.specs.declared.key.Key.{Key}
use Rattle.rkt_route.specs.Collisions.{AreCollisions, CollidesAt}
use Rattle.rkt_route.proofs.Among.{among_first}
use Rattle.rkt_ignition.specs.Sentinels.{SeenIgnited}
use Rattle.rkt_fairing.specs.Building.{SeenBuilding}
use Rattle.rkt_fairing.specs.Info.{SeenInfo}
use Rattle.rkt_ignition.specs.Calls.{CallingAtIgnition}
use Rattle.rkt_ignition.specs.Ignited.{IsRefused}
use Rattle.rkt_ignition.specs.Valid.{IsValid}
use Rattle.rkt_ignition.specs.declared.error.IgniteError.{IgniteError}
use Rattle.rkt_ignition.specs.declared.error.IgniteError.TheVariants.{IgniteLimit, FailedFairings, Config, Collisions, SentinelAborts}
use Rattle.rkt_ignition.proofs.Refusals.{refused_so}

-- where none collide, no pairs do
none_collide : {X : Type 0} (Collide : X → X → Type 0) (items : List X) (pairs : List (ℕ × ℕ)) → AreCollisions Collide items pairs → ((pair : ℕ × ℕ) → ¬ CollidesAt Collide items pair) → pairs ≡ []
none_collide Collide items [] are apart = refl
none_collide Collide items (pair ∷ pairs) are apart = absurd (apart pair ((are.colliding pair).0 (among_first pair pairs)))

module _ {H K N V F Task : Type 0} (calling : CallingAtIgnition H K N V F Task) (key : F → Key) (info : F → SeenInfo) (May : N → SeenIgnited V → Bool → Type 0) (building : SeenBuilding H K N V F)
    (valid : IsValid calling key info May building) where
  not_refused : (e : IgniteError) → IsRefused calling key info May building e → ⊥
  not_refused (IgniteLimit calls) (now, many) = valid.few calls now many
  not_refused (FailedFairings infos calls) (end, all, same, some) = some (valid.in_order calls end all).none_failed
  not_refused (Config bad) (calls, end, passes, is) = none-some _ (sym (valid.in_order calls end passes.all).settings ∙ is)
  not_refused (Collisions found) (calls, end, passes, (parts, made, (routes, catchers, some))) =
      let order = valid.in_order calls end passes.all in
      some (none_collide _ _ _ routes (rw made.router order.routes), none_collide _ _ _ catchers (rw made.router order.catchers))
  not_refused (SentinelAborts aborted) (calls, end, passes, (parts, made, (apart, (positions, queried, some, told)))) =
      some ((valid.in_order calls end passes.all).sentries parts.config positions made.config (rw (← ap (λ r. r.routes) made.router, ← made.managed) queried))

  -- a call that gives only such refusals gives none
  pub never_refused : {T : Type 0} (r : Result T (Want IgniteError)) → IfRefused r (IsRefused calling key info May building) → IfRefused r (λ e. ⊥)
  never_refused r said = refused_so r _ _ not_refused said
