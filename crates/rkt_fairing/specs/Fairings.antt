-- Fairings in the order in which they were attached, and which of them are called at each event.
use Rattle.std.specs.Prelude.{◌≡◌, ◌≤◌, ◌+◌, ◌∷◌, ◌++◌, ℕ, [], List, Bool, Option, length, map, take, slice_get, if◌then◌else◌, vec_len, vec_capacity, slice_index, slice_set}
use Rattle.std.specs.List.{list_any}
use Rattle.std.specs.Option.{option_and_then}
use Rattle.rkt_http.specs.declared.key.Key.{Key}
use Rattle.rkt_fairing.specs.Info.{SeenInfo, seen_info}
use Rattle.rkt_fairing.specs.Places.{SeenPlaces, AreBelow, HaveRoom, joined, no_places, places_of, places_where, seen_places}
use Rattle.rkt_fairing.specs.Slot.{slot_info, slot_key}
use Rattle.rkt_fairing.specs.Told.{SeenTold, has_key, is_other}
use Rattle.rkt_fairing.specs.declared.callback.Callback.{Callback}
use Rattle.rkt_fairing.specs.declared.callback.Callback.TheVariants.{Ignite}
use Rattle.rkt_fairing.specs.declared.lists.Lists.{Lists}
use Rattle.rkt_fairing.specs.declared.slot.Slot.{Slot}

-- F is the type of the application's fairings

pub record SeenFairings (F : Type 0) : Type 0 where
  -- all that were attached, in order; a position is a place here
  pub slots : List (Slot F)
  -- what each of them told then
  pub told : List SeenTold
  -- the positions of those that are called at each event
  pub places : SeenPlaces
  -- how many of those that are called at ignition count as ignited: the first ones
  pub ignited : ℕ
  -- what has failed: the singletons that came after one of their key had ignited, and what a call put there
  pub failures : List SeenInfo

abbrev pub no_fairings : {F : Type 0} → SeenFairings F
no_fairings = record { slots = []; told = []; places = no_places; ignited = 0; failures = [] }

-- one of this key counts as ignited
abbrev pub has_ignited : {F : Type 0} → Key → SeenFairings F → Bool
has_ignited key fairings = list_any (has_key fairings.told key) (take fairings.ignited fairings.places.ignite)

-- those of a key are called no more
abbrev pub without_key : {F : Type 0} → Key → SeenFairings F → SeenFairings F
without_key key fairings = record fairings { places = places_where (is_other fairings.told key) fairings.places }

-- one more is called, at the events of its kinds, behind the others
abbrev pub with_slot : {F : Type 0} → Slot F → SeenTold → SeenFairings F → SeenFairings F
with_slot slot told fairings = record fairings {
  slots = fairings.slots ++ slot ∷ [];
  told = fairings.told ++ told ∷ [];
  places = joined told.info.kind (length fairings.slots) fairings.places;
}

-- a singleton takes the place of those of its key, and is a failure where one of them has ignited
abbrev pub admitted : {F : Type 0} → Slot F → SeenTold → SeenFairings F → SeenFairings F
admitted slot told fairings =
    if told.info.kind.singleton
    then (if has_ignited told.key fairings
    then record fairings { failures = fairings.failures ++ told.info ∷ [] }
    else with_slot slot told (without_key told.key fairings))
    else with_slot slot told fairings

-- one more has failed
abbrev pub with_failure : {F : Type 0} → SeenInfo → SeenFairings F → SeenFairings F
with_failure info fairings = record fairings { failures = fairings.failures ++ info ∷ [] }

-- one is attached, which tells its key and what it is
abbrev pub added : {F : Type 0} → (F → Key) → (F → SeenInfo) → SeenFairings F → Slot F → SeenFairings F
added key info fairings slot = admitted slot (record { key = slot_key key slot; info = slot_info info slot }) fairings

-- the fairing at a place of an event's list
abbrev pub fairing_at : {F : Type 0} → Callback → SeenFairings F → ℕ → Option (Slot F)
fairing_at callback fairings n = option_and_then (slice_get fairings.slots) (slice_get (places_of callback fairings.places) n)

-- the one there is another one; what was told stays told
abbrev pub with_fairing_at : {F : Type 0} → Callback → SeenFairings F → ℕ → Slot F → SeenFairings F
with_fairing_at callback fairings n slot =
    record fairings { slots = slice_set fairings.slots (slice_index (places_of callback fairings.places) n) slot }

-- the first of those that are called at ignition that still waits is another one, and counts as ignited
abbrev pub with_next_ignited : {F : Type 0} → SeenFairings F → Slot F → SeenFairings F
with_next_ignited fairings slot =
    record (with_fairing_at Ignite fairings fairings.ignited slot) { ignited = fairings.ignited + 1 }

-- each position is that of a fairing, which told something
pub record AreSound {F : Type 0} (fairings : SeenFairings F) : Type 0 where
  pub told : length fairings.told ≡ length fairings.slots
  pub places : AreBelow (length fairings.slots) fairings.places

-- as they stand in memory
abbrev pub seen_lists : {F : Type 0} → Lists F → SeenFairings F
seen_lists lists = record {
  slots = lists.slots.items;
  told = lists.told.items;
  places = seen_places lists.places;
  ignited = lists.ignited;
  failures = map seen_info lists.failures.items;
}

-- there is room for so many more
pub record HasRoom {F : Type 0} (lists : Lists F) (more : ℕ) : Type 0 where
  pub slots : vec_len lists.slots + more ≤ vec_capacity lists.slots
  pub told : vec_len lists.told + more ≤ vec_capacity lists.told
  pub places : HaveRoom lists.places more
  pub failures : vec_len lists.failures + more ≤ vec_capacity lists.failures
