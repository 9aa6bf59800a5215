-- The calls at liftoff, in order, and what they lead to.
use Rattle.std.specs.Prelude.{◌≡◌, ◌+◌, ◌∷◌, ℕ, [], List, Some, length}
use Rattle.rkt_turn.specs.Shutdown.{Handle}
use Rattle.rkt_fairing.specs.Fairings.{SeenFairings, fairing_at, with_fairing_at}
use Rattle.rkt_fairing.specs.Life.{SeenView}
use Rattle.rkt_fairing.specs.declared.callback.Callback.TheVariants.{Liftoff}
use Rattle.rkt_fairing.specs.declared.slot.Slot.{Slot}
use Rattle.rkt_fairing.specs.Calls.{CalledAtLiftoff, CallingAtLiftoff}
use Rattle.rkt_fairing.specs.declared.called.Called.{Called}

-- F is the type of the application's fairings

-- what may be changed at liftoff
pub record Lifting (F : Type 0) : Type 0 where
  -- what is attached to the rocket
  pub fairings : SeenFairings F
  -- the handle of its wire
  pub shutdown : Handle

module _ {H K N V F Task : Type 0} (calling : CallingAtLiftoff H K N V F Task) (view : SeenView H K N V) where
  -- a call of the fairing at a place of those that are called at liftoff, which changes no other
  pub record LiftsAt (n : ℕ) (before : Lifting F) (called : Called) (after : Lifting F) : Type 0 where
    pub slot : Slot F
    -- what the call leaves in its place
    pub left : Slot F
    pub there : fairing_at Liftoff before.fairings n ≡ Some slot
    pub gives : CalledAtLiftoff calling view slot before.shutdown called left after.shutdown
    pub fairings : after.fairings ≡ with_fairing_at Liftoff before.fairings n left

  -- a chain of calls, of the fairings from a place on: each begins at what the one before it left
  abbrev pub LiftsFrom : ℕ → Lifting F → List Called → Lifting F → Type 0
  LiftsFrom n before [] after = after ≡ before
  LiftsFrom n before (called ∷ calls) after =
      (next : Lifting F) × LiftsAt n before called next × LiftsFrom (n + 1) next calls after

  -- these calls, one of each fairing that is called at liftoff, lead from before to after
  pub record Lifts (before : Lifting F) (calls : List Called) (after : Lifting F) : Type 0 where
    pub chain : LiftsFrom 0 before calls after
    pub all : length calls ≡ length before.fairings.places.liftoff
