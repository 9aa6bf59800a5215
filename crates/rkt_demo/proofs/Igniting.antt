-- How the sample ignites: no fairing is called, and nothing of it is refused but its table.
use Rattle.std.proofs.Common.{◌≡◌, ◌∙◌, ℕ, [], ◌∷◌, List, Bool, Some, None, Result, Ok, Err, ap, refl, subst, sym, arith}
use Rattle.std.specs.Prelude.{IfOk, OnOk}
use Rattle.std.proofs.lemmas.Option.{none-some}
use Rattle.rkt_base.specs.Want.{IfRefused}
use Rattle.rkt_base.specs.declared.want.Want.{Want}
use Rattle.rkt_base.specs.declared.want.Want.TheVariants as want
use Rattle.rkt_config.specs.Config.{first_bad}
use Rattle.rkt_fairing.specs.Building.{SeenBuilding}
use Rattle.rkt_fairing.specs.Fairings.{fairing_at}
use Rattle.rkt_fairing.specs.Info.{SeenInfo}
use Rattle.rkt_fairing.specs.declared.callback.Callback.TheVariants as callback
use Rattle.rkt_http.specs.declared.key.Key.{Key}
use Rattle.rkt_ignition.specs.Aborted.{sentries_of}
use Rattle.rkt_ignition.specs.Calls.{CallingAtIgnition, SeenCall}
use Rattle.rkt_ignition.specs.Ignited.{IsIgnited, IsMadeOf, IsRefused, Passes}
use Rattle.rkt_ignition.specs.Ignites.{Igniting, Ignites, Waits, begins, calls_next, adds_others, igniting}
use Rattle.rkt_ignition.specs.Reached.{IsQueried}
use Rattle.rkt_ignition.specs.declared.error.IgniteError.{IgniteError}
use Rattle.rkt_ignition.specs.declared.error.IgniteError.TheVariants.{IgniteLimit, FailedFairings, Config, Collisions, SentinelAborts}
use Rattle.rkt_life.specs.Ignition.{IgnitesTo}
use Rattle.rkt_life.specs.Rocket.{SeenRocket}
use Rattle.rkt_life.specs.declared.no_fairing.NoFairing.{NoFairing}
use Rattle.rkt_route.specs.Collisions.{AreCollisions, CatchersCollide, CollidesAt, RoutesCollide}
use Rattle.rkt_route.specs.declared.catcher.Catcher.{Catcher}
use Rattle.rkt_route.specs.declared.route.Route.{Route}
use Rattle.rkt_ignition.specs.Sentinels.{SeenIgnited}
use Rattle.rkt_sample.specs.Mounted.{sample_catchers, sample_routes}
use Rattle.rkt_sample.specs.declared.catcher.SampleCatcher.{SampleCatcher}
use Rattle.rkt_sample.specs.declared.route.SampleRoute.{SampleRoute}
use Rattle.rkt_demo.proofs.Apart.{no_catchers_collide, no_routes_collide}
use Rattle.rkt_demo.specs.Program.{IsAccepted}
use Rattle.rkt_demo.specs.Sample.{IsSample, shield_alone}
use Rattle.rkt_script.specs.Words.{Table}

abbrev pub Built : Type 0
Built = SeenBuilding SampleRoute SampleCatcher (Unit {0}) ℕ NoFairing

-- the rocket that is made of it
abbrev pub Made : Type 0
Made = SeenRocket NoFairing SampleRoute SampleCatcher (Unit {0}) ℕ

-- what is built of the sample
abbrev pub sample_built : Table → Built
sample_built table = record { routes = sample_routes; catchers = sample_catchers; fairings = shield_alone; managed = []; table = table }

-- where no two collide, no pair is told
none_told : {X : Type 0} (Collide : X → X → Type 0) (items : List X) (pairs : List (ℕ × ℕ)) → ((pair : ℕ × ℕ) → CollidesAt Collide items pair → ⊥) → AreCollisions Collide items pairs → pairs ≡ []
none_told Collide items [] apart are = refl
none_told Collide items (pair ∷ pairs) apart are = absurd (apart pair ((are.colliding pair).0 (0, (omega arith, refl))))

module _ {Task : Type 0} (calling : CallingAtIgnition SampleRoute SampleCatcher (Unit {0}) ℕ NoFairing Task) (key : NoFairing → Key) (info : NoFairing → SeenInfo) (May : Unit {0} → SeenIgnited ℕ → Bool → Type 0) (table : Table) where
  -- no sentry is asked
  none_abort : (rocket : SeenIgnited ℕ) (positions : List ℕ) → IsQueried May (sentries_of sample_routes) rocket positions → positions ≡ []
  none_abort rocket positions queried = queried.those

  abbrev start : Igniting SampleRoute SampleCatcher (Unit {0}) ℕ NoFairing
  start = igniting (sample_built table)

  -- nothing is called
  still : (calls : List SeenCall) (now : Igniting SampleRoute SampleCatcher (Unit {0}) ℕ NoFairing) → Ignites calling key info start calls now → now ≡ start
  still _ _ begins = refl
  still _ _ (calls_next {now = now} walk next) =
      absurd (none-some _ (subst (λ (i : Igniting SampleRoute SampleCatcher (Unit {0}) ℕ NoFairing). fairing_at callback.Ignite i.attached i.attached.ignited ≡ Some next.slot) (still _ now walk) next.waited))
  still _ _ (adds_others {now = now} walk none) = rw (still _ _ walk) refl

  passed : (calls : List SeenCall) (end : Igniting SampleRoute SampleCatcher (Unit {0}) ℕ NoFairing) → Passes calling key info May (sample_built table) calls end → end ≡ start
  passed calls end passes = still calls end passes.all.ignites

  -- what has ignited is the sample
  pub ignited_sample : (rocket : Made) → IgnitesTo (IsIgnited calling key info May (sample_built table)) rocket → IsSample table rocket.tables × (first_bad table ≡ None)
  ignited_sample rocket (parts, ignited, same, told) =
      let end : ignited.end ≡ start = passed ignited.calls ignited.end ignited.passes in
      let made = subst (λ (i : Igniting SampleRoute SampleCatcher (Unit {0}) ℕ NoFairing). IsMadeOf i parts) end ignited.made in (
        subst (IsSample table) (sym same) (record {
          routes = ap (λ r. r.routes) made.router;
          catchers = ap (λ r. r.catchers) made.router;
          fairings = made.fairings;
          config = made.config;
          managed = made.managed;
        }),
        made.accepted,
      )

  -- and keeps the table
  same_table : (rocket : Made) → IgnitesTo (IsIgnited calling key info May (sample_built table)) rocket → rocket.table ≡ table
  same_table rocket (parts, ignited, same, told) =
      let end : ignited.end ≡ start = passed ignited.calls ignited.end ignited.passes in
      told ∙ ignited.made.table ∙ ap (λ (i : Igniting SampleRoute SampleCatcher (Unit {0}) ℕ NoFairing). i.building.table) end

  -- and it is refused for its table alone
  pub refused_sample : (error : IgniteError) → IsRefused calling key info May (sample_built table) error → ¬ (first_bad table ≡ None)
  refused_sample (IgniteLimit calls) (now, many) accepted = waits (subst (λ (i : Igniting SampleRoute SampleCatcher (Unit {0}) ℕ NoFairing). Waits i.attached) (still _ now many.ignites) many.waits)
    where
      waits : Waits shield_alone → ⊥
      waits less = omega (arith, less)
  refused_sample (FailedFairings infos calls) (end, all, are, some) accepted = some (ap (λ (i : Igniting SampleRoute SampleCatcher (Unit {0}) ℕ NoFairing). i.attached.failures) (still calls end all.ignites))
  refused_sample (Config bad) (calls, end, passes, bad_is) accepted =
      none-some _ (sym accepted ∙ subst (λ (i : Igniting SampleRoute SampleCatcher (Unit {0}) ℕ NoFairing). first_bad i.building.table ≡ Some (bad.name, bad.text)) (passed calls end passes) bad_is)
  refused_sample (Collisions found) (calls, end, passes, (parts, made, refuses)) accepted =
      let now = subst (λ (i : Igniting SampleRoute SampleCatcher (Unit {0}) ℕ NoFairing). IsMadeOf i parts) (passed calls end passes) made in
      let routes = subst (λ (r : List (Route SampleRoute (Unit {0}))). AreCollisions RoutesCollide r found.routes) (ap (λ r. r.routes) now.router) refuses.0 in
      let catchers = subst (λ (r : List (Catcher SampleCatcher)). AreCollisions CatchersCollide r found.catchers) (ap (λ r. r.catchers) now.router) refuses.1 in
      refuses.2 (none_told _ sample_routes found.routes no_routes_collide routes, none_told _ sample_catchers found.catchers no_catchers_collide catchers)
  refused_sample (SentinelAborts aborted) (calls, end, passes, (parts, made, refuses)) accepted =
      let now = subst (λ (i : Igniting SampleRoute SampleCatcher (Unit {0}) ℕ NoFairing). IsMadeOf i parts) (passed calls end passes) made in
      let (positions, queried, some, told) = refuses.1 in
      some (none_abort _ positions (subst (λ (r : List (Route SampleRoute (Unit {0}))). IsQueried May (sentries_of r) (record { config = parts.config; managed = parts.managed }) positions) (ap (λ r. r.routes) now.router) queried))

  pub made_so : {E : Type 0} (b : Built) (made : Result Made E) → b ≡ sample_built table → IfOk made (λ rocket. IgnitesTo (IsIgnited calling key info May b) rocket) → IfOk made (λ rocket. IsSample table rocket.tables)
  made_so b (Ok rocket) same ignites = (ignited_sample rocket (subst (λ (x : Built). IgnitesTo (IsIgnited calling key info May x) rocket) same ignites)).0
  made_so b (Err error) same ignites = tt

  pub table_so : {E : Type 0} (b : Built) (made : Result Made E) → b ≡ sample_built table → IfOk made (λ rocket. IgnitesTo (IsIgnited calling key info May b) rocket) → IfOk made (λ rocket. rocket.table ≡ table)
  table_so b (Ok rocket) same ignites = same_table rocket (subst (λ (x : Built). IgnitesTo (IsIgnited calling key info May x) rocket) same ignites)
  table_so b (Err error) same ignites = tt

  pub accepted_so : {E : Type 0} (b : Built) (made : Result Made E) → b ≡ sample_built table → IfOk made (λ rocket. IgnitesTo (IsIgnited calling key info May b) rocket) → OnOk made (IsAccepted table)
  accepted_so b (Ok rocket) same ignites = (ignited_sample rocket (subst (λ (x : Built). IgnitesTo (IsIgnited calling key info May x) rocket) same ignites)).1
  accepted_so b (Err error) same ignites = tt

  pub refused_so : (b : Built) (made : Result Made (Want IgniteError)) → b ≡ sample_built table → IfRefused made (IsRefused calling key info May b) → IfRefused made (λ error. ¬ IsAccepted table)
  refused_so b (Ok rocket) same refused = tt
  refused_so b (Err (want.Refused error)) same refused = refused_sample error (subst (λ (x : Built). IsRefused calling key info May x error) same refused)
  refused_so b (Err want.NoMemory) same refused = tt
