-- Calls in order, one more each time, and what the calls at liftoff leave.
use Rattle.std.proofs.Common.{◌≡◌, ◌≢◌, ◌<◌, ◌+◌, ◌∷◌, ◌++◌, ◌∙◌, ℕ, zero, suc, [], List, ap, arith, get_or, length, refl, subst, sym}
use Rattle.std.proofs.Math.ListN.{set}
use Rattle.std.proofs.lemmas.List.{length_push}
use Rattle.std.proofs.lemmas.List.Elements.{Contains-get_or}
use Rattle.std.proofs.lemmas.Option.{get_or_from_slice_get, option_and_then_some, slice_get_within}
use Rattle.std.specs.List.{Contains, slice_get}
use Rattle.std.proofs.Math.Nat.{le_refl}
use Rattle.rkt_turn.specs.HandsBack.{HandsBack}
use Rattle.rkt_turn.specs.HandsBackLaws.{hands_back_more, hands_back_same}
use Rattle.rkt_turn.specs.Shutdown.{Handle}
use Rattle.rkt_fairing.specs.Fairings.{SeenFairings}
use Rattle.rkt_fairing.specs.Life.{SeenView}
use Rattle.rkt_fairing.specs.Places.{SeenPlaces}
use Rattle.rkt_fairing.specs.declared.slot.Slot.{Slot}
use Rattle.rkt_fairing.specs.declared.slot.Slot.TheVariants.{Shield, App}
use Rattle.rkt_fairing.specs.Calls.{CalledAtLiftoff, CallingAtLiftoff, CallingAtShutdown}
use Rattle.rkt_fairing.specs.Lifts.{Lifting, LiftsAt, LiftsFrom}
use Rattle.rkt_fairing.specs.ShutsDown.{ShutsDownAt, ShutsDownFrom}
use Rattle.rkt_fairing.specs.declared.called.Called.{Called}

-- one more call is counted
pub counted_more : (calls more : List Called) (called : Called) (n : ℕ) → more ≡ calls ++ called ∷ [] → length calls ≡ n → length more ≡ n + 1
counted_more calls more called n is all = ap length is ∙ length_push calls called ∙ ap (λ (m : ℕ). m + 1) all

-- a handle that is the same comes back
pub back_same : (before after : Handle) → after ≡ before → HandsBack before after
back_same before after same = subst (λ h. HandsBack before h) (sym same) (hands_back_same before)

-- one place of a list is another one
slice_get-set_other : {X : Type 0} (xs : List X) (i j : ℕ) (x : X) → j ≢ i → slice_get (set xs i x) j ≡ slice_get xs j
slice_get-set_other [] i j x differs = refl
slice_get-set_other (y ∷ xs) zero zero x differs = absurd (differs refl)
slice_get-set_other (y ∷ xs) zero (suc j) x differs = refl
slice_get-set_other (y ∷ xs) (suc i) zero x differs = refl
slice_get-set_other (y ∷ xs) (suc i) (suc j) x differs = slice_get-set_other xs i j x (λ same. differs (ap suc same))

module _ {H K N V F Task : Type 0} (calling : CallingAtLiftoff H K N V F Task) (view : SeenView H K N V) where
  -- one more call at the end of a chain
  pub lifts_more : (n k : ℕ) (before now next : Lifting F) (calls : List Called) (called : Called) → k ≡ n + length calls → LiftsFrom calling view n before calls now → LiftsAt calling view k now called next
      → LiftsFrom calling view n before (calls ++ called ∷ []) next
  lifts_more n k before now next [] called is chain link =
      let here : k ≡ n = omega arith in
      (next, subst (λ (from : Lifting F). LiftsAt calling view n from called next) chain (subst (λ (i : ℕ). LiftsAt calling view i now called next) here link), refl)
  lifts_more n k before now next (first ∷ calls) called is (mid, link_first, rest) link = (mid, link_first, lifts_more (n + 1) k mid now next calls called (omega arith) rest link)

  -- which fairings are called stays
  pub lift_places : (n : ℕ) (before after : Lifting F) (called : Called) (places : SeenPlaces) → LiftsAt calling view n before called after → before.fairings.places ≡ places → after.fairings.places ≡ places
  lift_places n before after called places link same = ap (λ (f : SeenFairings F). f.places) link.fairings ∙ same

  -- a chain changes nothing but the fairings themselves
  pub lifts_kept : (n : ℕ) (before after : Lifting F) (calls : List Called) → LiftsFrom calling view n before calls after → after.fairings ≡ record before.fairings { slots = after.fairings.slots }
  lifts_kept n before after [] chain = subst (λ (l : Lifting F). l.fairings ≡ record before.fairings { slots = l.fairings.slots }) (sym chain) refl
  lifts_kept n before after (first ∷ calls) (mid, link, rest) = lifts_kept (n + 1) mid after calls rest ∙ ap (λ (f : SeenFairings F). record f { slots = after.fairings.slots }) link.fairings

  -- a call changes no other fairing
  lift_other : (n : ℕ) (before after : Lifting F) (called : Called) → LiftsAt calling view n before called after → (place : ℕ) → ¬ Contains before.fairings.places.liftoff place
      → slice_get after.fairings.slots place ≡ slice_get before.fairings.slots place
  lift_other n before after called link place other =
      let places : List ℕ = before.fairings.places.liftoff in
      let slots : List (Slot F) = before.fairings.slots in
      option_and_then_some (slice_get slots) (slice_get places n) link.slot link.there (λ at is found.
      let here : get_or places n 0 ≡ at = get_or_from_slice_get places n at 0 is in
      let differs : place ≢ get_or places n 0 = λ same. other (rw same (Contains-get_or places n 0 (slice_get_within places n at is))) in
      ap (λ (f : SeenFairings F). slice_get f.slots place) link.fairings ∙ slice_get-set_other slots (get_or places n 0) place link.left differs)

  -- nor does a chain
  pub lifts_others : (n : ℕ) (before after : Lifting F) (calls : List Called) → LiftsFrom calling view n before calls after → (place : ℕ) → ¬ Contains before.fairings.places.liftoff place
      → slice_get after.fairings.slots place ≡ slice_get before.fairings.slots place
  lifts_others n before after [] chain place other = ap (λ (l : Lifting F). slice_get l.fairings.slots place) chain
  lifts_others n before after (first ∷ calls) (mid, link, rest) place other =
      let still : ¬ Contains mid.fairings.places.liftoff place = subst (λ (f : SeenFairings F). ¬ Contains f.places.liftoff place) (sym link.fairings) other in
      lifts_others (n + 1) mid after calls rest place still ∙ lift_other n before mid first link place other

  -- after a call the handle stays one of its wire
  pub lift_back : (slot left : Slot F) (before after : Handle) (called : Called) → CalledAtLiftoff calling view slot before called left after → HandsBack before after
  lift_back (Shield headers) left before after called gives = back_same before after gives.2
  lift_back (App fairing) left before after called (changed, is, gives, back) = back

  -- and after a chain
  pub lifts_back : (n : ℕ) (before after : Lifting F) (calls : List Called) → LiftsFrom calling view n before calls after → HandsBack before.shutdown after.shutdown
  lifts_back n before after [] chain = back_same before.shutdown after.shutdown (ap (λ (l : Lifting F). l.shutdown) chain)
  lifts_back n before after (first ∷ calls) (mid, link, rest) =
      hands_back_more before.shutdown mid.shutdown after.shutdown (lift_back link.slot link.left before.shutdown mid.shutdown first link.gives) (lifts_back (n + 1) mid after calls rest)

module _ {H K N V F Task : Type 0} (calling : CallingAtShutdown H K N V F Task) (view : SeenView H K N V) (fairings : SeenFairings F) where
  -- one more call at the end of those of a shutdown
  pub shuts_down_more : (n k : ℕ) (calls : List Called) (called : Called) → k ≡ n + length calls → ShutsDownFrom calling view fairings n calls → ShutsDownAt calling view fairings k called
      → ShutsDownFrom calling view fairings n (calls ++ called ∷ [])
  shuts_down_more n k [] called is each one =
      let here : k ≡ n = omega arith in
      (subst (λ (i : ℕ). ShutsDownAt calling view fairings i called) here one, tt)
  shuts_down_more n k (first ∷ calls) called is each one = (each.0, shuts_down_more (n + 1) k calls called (omega arith) each.1 one)
