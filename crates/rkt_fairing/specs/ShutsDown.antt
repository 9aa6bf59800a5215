-- The calls at a shutdown, in order.
use Rattle.std.specs.Prelude.{◌≡◌, ◌+◌, ◌∷◌, ℕ, [], List, Some, length, ⊤}
use Rattle.rkt_fairing.specs.Fairings.{SeenFairings, fairing_at}
use Rattle.rkt_fairing.specs.Life.{SeenView}
use Rattle.rkt_fairing.specs.declared.callback.Callback.TheVariants.{Shutdown}
use Rattle.rkt_fairing.specs.declared.slot.Slot.{Slot}
use Rattle.rkt_fairing.specs.Calls.{CalledAtShutdown, CallingAtShutdown}
use Rattle.rkt_fairing.specs.declared.called.Called.{Called}

-- F is the type of the application's fairings

module _ {H K N V F Task : Type 0} (calling : CallingAtShutdown H K N V F Task) (view : SeenView H K N V)
    (fairings : SeenFairings F) where
  -- a call of the fairing at a place of those that are called at a shutdown
  pub record ShutsDownAt (n : ℕ) (called : Called) : Type 0 where
    pub slot : Slot F
    pub there : fairing_at Shutdown fairings n ≡ Some slot
    pub gives : CalledAtShutdown calling view slot called

  -- calls of the fairings from a place on, in order
  abbrev pub ShutsDownFrom : ℕ → List Called → Type 0
  ShutsDownFrom n [] = ⊤
  ShutsDownFrom n (called ∷ calls) = ShutsDownAt n called × ShutsDownFrom (n + 1) calls

  -- these calls are one of each fairing that is called at a shutdown
  pub record ShutsDown (calls : List Called) : Type 0 where
    pub each : ShutsDownFrom 0 calls
    pub all : length calls ≡ length fairings.places.shutdown
