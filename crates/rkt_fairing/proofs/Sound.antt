-- That positions stay those of fairings.
use Rattle.std.proofs.Common.{◌≡◌, ◌<◌, ◌+◌, ◌∷◌, ◌∙◌, ℕ, [], List, Bool, true, false, All, arith, length-append, if◌then◌else◌, fold, subst, sym, ap, refl}
use Rattle.std.proofs.lemmas.List.Elements.{All-filter, All-nil, All-push, All-weaker}
use Rattle.rkt_fairing.specs.Fairings.{SeenFairings, AreSound, added, admitted, has_ignited, no_fairings, with_slot, without_key}
use Rattle.rkt_http.specs.declared.key.Key.{Key}
use Rattle.rkt_fairing.specs.Info.{SeenInfo}
use Rattle.rkt_fairing.specs.Places.{SeenPlaces, AreBelow, join_if, places_of, places_where}
use Rattle.rkt_fairing.specs.Told.{SeenTold, is_other}
use Rattle.rkt_fairing.specs.declared.callback.Callback.{Callback}
use Rattle.rkt_fairing.specs.declared.callback.Callback.TheVariants.{Ignite, Liftoff, Request, Response, Shutdown}
use Rattle.rkt_fairing.specs.declared.slot.Slot.{Slot}

pub no_fairings_sound : {F : Type 0} → AreSound (no_fairings {F = F})
no_fairings_sound = record { told = refl; places = record { ignite = All-nil _; liftoff = All-nil _; request = All-nil _; response = All-nil _; shutdown = All-nil _ } }

below_more : (bound : ℕ) (xs : List ℕ) → All (λ place. place < bound) xs → All (λ place. place < bound + 1) xs
below_more bound xs below = All-weaker (λ place. place < bound) (λ place. place < bound + 1) (λ place h. omega arith) xs below

join_below : (joins : Bool) (bound : ℕ) (xs : List ℕ) → All (λ place. place < bound) xs → All (λ place. place < bound + 1) (join_if joins xs bound)
join_below true bound xs below = All-push (λ place. place < bound + 1) xs bound (below_more bound xs below) (omega arith)
join_below false bound xs below = below_more bound xs below

with_slot_sound : {F : Type 0} (slot : Slot F) (told : SeenTold) (fairings : SeenFairings F) → AreSound fairings → AreSound (with_slot slot told fairings)
with_slot_sound slot told fairings sound = record {
  told = rw (length-append fairings.told (told ∷ []), length-append fairings.slots (slot ∷ [])) (ap (λ (n : ℕ). n + 1) sound.told);
  places = rw (length-append fairings.slots (slot ∷ [])) (record {
    ignite = join_below told.info.kind.ignite _ _ sound.places.ignite;
    liftoff = join_below told.info.kind.liftoff _ _ sound.places.liftoff;
    request = join_below told.info.kind.request _ _ sound.places.request;
    response = join_below told.info.kind.response _ _ sound.places.response;
    shutdown = join_below told.info.kind.shutdown _ _ sound.places.shutdown;
  });
}

where_below : (stays : ℕ → Bool) (bound : ℕ) (places : SeenPlaces) → AreBelow bound places → AreBelow bound (places_where stays places)
where_below stays bound places below = record {
  ignite = All-filter stays (λ place. place < bound) _ below.ignite;
  liftoff = All-filter stays (λ place. place < bound) _ below.liftoff;
  request = All-filter stays (λ place. place < bound) _ below.request;
  response = All-filter stays (λ place. place < bound) _ below.response;
  shutdown = All-filter stays (λ place. place < bound) _ below.shutdown;
}

sound_if : {F : Type 0} (b : Bool) (x y : SeenFairings F) → AreSound x → AreSound y → AreSound (if b then x else y)
sound_if true x y p q = p
sound_if false x y p q = q

admitted_sound : {F : Type 0} (slot : Slot F) (told : SeenTold) (fairings : SeenFairings F) → AreSound fairings → AreSound (admitted slot told fairings)
admitted_sound slot told fairings sound =
    sound_if told.info.kind.singleton _ _
    (sound_if (has_ignited told.key fairings) _ _
    (record { told = sound.told; places = sound.places })
    (with_slot_sound slot told (without_key told.key fairings) (record { told = sound.told; places = where_below (is_other fairings.told told.key) _ _ sound.places })))
    (with_slot_sound slot told fairings sound)

-- one more was admitted, once there was room
pub admitted_in : {F : Type 0} (slot : Slot F) (told : SeenTold) (before now after : SeenFairings F) → now ≡ before → after ≡ admitted slot told now → AreSound before → AreSound after
admitted_in slot told before now after same is sound = subst AreSound (sym (is ∙ ap (admitted slot told) same)) (admitted_sound slot told before sound)

fold_sound : {F : Type 0} (key : F → Key) (info : F → SeenInfo) (slots : List (Slot F)) (fairings : SeenFairings F) → AreSound fairings → AreSound (fold (added key info) fairings slots)
fold_sound key info [] fairings sound = sound
fold_sound key info (slot ∷ slots) fairings sound = fold_sound key info slots (added key info fairings slot) (admitted_sound slot _ fairings sound)

-- some more were added, once there was room
pub appended_in : {F : Type 0} (key : F → Key) (info : F → SeenInfo) (slots : List (Slot F)) (before now after : SeenFairings F) → now ≡ before → after ≡ fold (added key info) now slots → AreSound before
    → AreSound after
appended_in key info slots before now after same is sound = subst AreSound (sym (is ∙ ap (λ fairings. fold (added key info) fairings slots) same)) (fold_sound key info slots before sound)

-- each position of an event's list is that of a fairing
pub below_of : (callback : Callback) (bound : ℕ) (places : SeenPlaces) → AreBelow bound places → All (λ place. place < bound) (places_of callback places)
below_of Ignite bound places below = below.ignite
below_of Liftoff bound places below = below.liftoff
below_of Request bound places below = below.request
below_of Response bound places below = below.response
below_of Shutdown bound places below = below.shutdown
