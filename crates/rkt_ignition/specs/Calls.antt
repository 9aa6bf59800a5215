-- One call at ignition: what it is, and what it gives by its answer.
use Rattle.std.specs.Prelude.{◌≡◌, ℕ, [], Ok, Err, Result}
use Rattle.rkt_router.specs.Calling.{Calling}
use Rattle.rkt_router.specs.Calls.{Gives}
use Rattle.rkt_router.specs.declared.turn.Final.{Final}
use Rattle.rkt_router.specs.declared.turn.Final.TheVariants as final
use Rattle.rkt_fairing.specs.Building.{SeenBuilding}
use Rattle.rkt_fairing.specs.Info.{SeenInfo}
use Rattle.rkt_fairing.specs.Life.{IgniteAt}
use Rattle.rkt_fairing.specs.declared.slot.Slot.{Slot}
use Rattle.rkt_fairing.specs.declared.slot.Slot.TheVariants.{Shield, App}
use Rattle.rkt_ignition.specs.declared.answer.IgniteAnswer.{IgniteAnswer}
use Rattle.rkt_ignition.specs.declared.answer.IgniteAnswer.TheVariants as ends

-- H is the type of handlers, K that of catchers' handlers, N that of what sentries ask, V that of managed values, F that of
-- the application's fairings, Task that of their tasks

-- a call, by what the fairing told of itself and what it answered
pub record SeenCall : Type 0 where
  pub info : SeenInfo
  pub answer : IgniteAnswer

-- so often one callback may be polled
abbrev pub ignite_turns : ℕ
ignite_turns = 1048576

-- what a callback means that is called at ignition
abbrev pub CallingAtIgnition : (H K N V F Task : Type 0) → Type 1
CallingAtIgnition H K N V F Task = Calling (Unit {0}) (Unit {0}) (IgniteAt H K N V F) (Result (Unit {0}) (Unit {0})) Task

-- what a whole call gave, by its answer
abbrev pub reply_of : IgniteAnswer → Final (Result (Unit {0}) (Unit {0}))
reply_of ends.Done = final.Done (Ok tt)
reply_of ends.Err = final.Done (Err tt)
reply_of ends.FailedTurn = final.FailedTurn

-- One whole call of what is in a slot, and what it leaves there and of the builder: a shield is done and changes nothing; a
-- fairing of the application gives what its callback may, polled where no Gate is shown.
abbrev pub CalledSlot : {H K N V F Task : Type 0}
    → CallingAtIgnition H K N V F Task → Slot F → SeenBuilding H K N V F → IgniteAnswer → Slot F → SeenBuilding H K N V F
    → Type 0
CalledSlot calling (Shield headers) before answer left after = (answer ≡ ends.Done) × (left ≡ Shield headers) × (after ≡ before)
CalledSlot {F = F} calling (App fairing) before answer left after =
    (changed : F)
    × (left ≡ App changed)
    × Gives calling tt tt ignite_turns (record { fairing = fairing; building = before }) [] (reply_of answer)
    (record { fairing = changed; building = after })
