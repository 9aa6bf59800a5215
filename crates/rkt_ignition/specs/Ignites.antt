-- The calls of an ignition, in order, and what they lead to.
use Rattle.std.specs.Prelude.{◌≡◌, ◌≤◌, ◌<◌, ◌∷◌, ◌++◌, ℕ, [], List, Some, fold, length}
use Rattle.rkt_http.specs.declared.key.Key.{Key}
use Rattle.rkt_fairing.specs.Building.{SeenBuilding}
use Rattle.rkt_fairing.specs.Fairings.{SeenFairings, added, fairing_at, no_fairings, with_failure, with_next_ignited}
use Rattle.rkt_fairing.specs.Info.{SeenInfo}
use Rattle.rkt_fairing.specs.Slot.{slot_info}
use Rattle.rkt_fairing.specs.declared.callback.Callback.TheVariants as callback
use Rattle.rkt_fairing.specs.declared.slot.Slot.{Slot}
use Rattle.rkt_ignition.specs.Calls.{CalledSlot, CallingAtIgnition, SeenCall}
use Rattle.rkt_ignition.specs.declared.answer.IgniteAnswer.{IgniteAnswer}
use Rattle.rkt_ignition.specs.declared.answer.IgniteAnswer.TheVariants as ends

-- H is the type of handlers, K that of catchers' handlers, N that of what sentries ask, V that of managed values, F that of
-- the application's fairings, Task that of their tasks

-- a rocket that ignites
pub record Igniting (H K N V F : Type 0) : Type 0 where
  -- the fairings that are attached to it
  pub attached : SeenFairings F
  -- all else that is built of it, with the fairings that were attached meanwhile
  pub building : SeenBuilding H K N V F

-- at its beginning the fairings are taken out of the builder
abbrev pub igniting : {H K N V F : Type 0} → SeenBuilding H K N V F → Igniting H K N V F
igniting building = record { attached = building.fairings; building = record building { fairings = no_fairings } }

-- one of those that are called at ignition still waits
abbrev pub Waits : {F : Type 0} → SeenFairings F → Type 0
Waits fairings = fairings.ignited < length fairings.places.ignite

-- what the answer of a call leaves of the fairings: one that was not Done has failed
abbrev pub answered : {F : Type 0} → IgniteAnswer → SeenInfo → SeenFairings F → SeenFairings F
answered ends.Done info fairings = fairings
answered ends.Err info fairings = with_failure info fairings
answered ends.FailedTurn info fairings = with_failure info fairings

-- the next fairing that waits is called, on the builder as it is, and counts as ignited
pub record CallsNext {H K N V F Task : Type 0} (calling : CallingAtIgnition H K N V F Task) (info : F → SeenInfo)
    (now : Igniting H K N V F) (call : SeenCall) (next : Igniting H K N V F) : Type 0 where
  pub slot : Slot F
  -- what the call leaves in its place
  pub left : Slot F
  pub waited : fairing_at callback.Ignite now.attached now.attached.ignited ≡ Some slot
  pub told : call.info ≡ slot_info info slot
  pub called : CalledSlot calling slot now.building call.answer left next.building
  pub attached : next.attached ≡ answered call.answer call.info (with_next_ignited now.attached left)

-- those that were attached meanwhile are added one by one, in the order in which they were attached
abbrev pub with_others : {H K N V F : Type 0} → (F → Key) → (F → SeenInfo) → Igniting H K N V F → Igniting H K N V F
with_others key info now = record {
  attached = fold (added key info) now.attached now.building.fairings.slots;
  building = record now.building { fairings = record no_fairings { failures = now.building.fairings.failures } };
}

-- these calls, in order, lead from a rocket at the beginning to a later one
pub data Ignites {H K N V F Task : Type 0} (calling : CallingAtIgnition H K N V F Task) (key : F → Key) (info : F → SeenInfo)
    (beginning : Igniting H K N V F) : List SeenCall → Igniting H K N V F → Type 0 where
  -- none were made
  begins : Ignites calling key info beginning [] beginning
  -- where one waits, it is called
  calls_next : {calls : List SeenCall} {call : SeenCall} {now next : Igniting H K N V F}
      → Ignites calling key info beginning calls now
      → CallsNext calling info now call next
      → Ignites calling key info beginning (calls ++ call ∷ []) next
  -- where none waits, those that were attached meanwhile are added
  adds_others : {calls : List SeenCall} {now : Igniting H K N V F}
      → Ignites calling key info beginning calls now
      → ¬ Waits now.attached
      → Ignites calling key info beginning calls (with_others key info now)

-- none waits, and none was attached meanwhile
pub record IsOver {H K N V F : Type 0} (now : Igniting H K N V F) : Type 0 where
  pub none_waits : ¬ Waits now.attached
  pub none_attached : now.building.fairings.slots ≡ []

-- so many callbacks may be called
abbrev pub ignite_calls : ℕ
ignite_calls = 1024

module _ {H K N V F Task : Type 0} (calling : CallingAtIgnition H K N V F Task) (key : F → Key) (info : F → SeenInfo)
    (beginning : Igniting H K N V F) where
  -- all that waited were called, with these calls
  pub record IgnitesAll (calls : List SeenCall) (end : Igniting H K N V F) : Type 0 where
    pub ignites : Ignites calling key info beginning calls end
    pub over : IsOver end
    pub within : length calls ≤ ignite_calls

  -- as many calls were made as may be, and another fairing waits
  pub record IgnitesTooMany (calls : List SeenCall) (now : Igniting H K N V F) : Type 0 where
    pub ignites : Ignites calling key info beginning calls now
    pub all : length calls ≡ ignite_calls
    pub waits : Waits now.attached
