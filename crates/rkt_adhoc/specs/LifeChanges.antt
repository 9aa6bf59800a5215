-- Callbacks of a rocket's life that an author writes as one change.
use Rattle.std.specs.Prelude.{◌≡◌, Bool, None, Option, MatchOption, Ok, Result, ⊤}
use Rattle.rkt_turn.specs.HandsBack.{HandsBack}
use Rattle.rkt_turn.specs.Shutdown.{Handle}
use Rattle.rkt_router.specs.Calling.{Calling}
use Rattle.rkt_router.specs.Callbacks.{at_once}
use Rattle.rkt_fairing.specs.Building.{SeenBuilding}
use Rattle.rkt_fairing.specs.Life.{IgniteAt, KeepsLiftoff, LiftoffAt, SeenView}
use Rattle.rkt_adhoc.specs.Changes.{made_once}

-- H is the type of handlers, K that of catchers' handlers, N that of what sentries ask, V that of managed values, F that of
-- fairings

-- one that changes a builder
abbrev pub trying_building : {H K N V F : Type 0}
    → (F → SeenBuilding H K N V F → Result (Unit {0}) (Unit {0}) → F → SeenBuilding H K N V F → Type 0)
    → Calling (Unit {0}) (Unit {0}) (IgniteAt H K N V F) (Result (Unit {0}) (Unit {0})) Bool
trying_building may =
    made_once (λ before after. ⊤)
    (λ callback handed before answer after. may before.fairing before.building answer after.fairing after.building)

-- one that is called at liftoff: the handle stays one of its wire
abbrev pub lifting : {H K N V F : Type 0}
    → (F → SeenView H K N V → Handle → F → Handle → Type 0)
    → Calling (Unit {0}) (SeenView H K N V) (LiftoffAt F) (Unit {0}) Bool
lifting may =
    made_once (λ before after. HandsBack before.shutdown after.shutdown)
    (λ callback view before answer after. may before.fairing view before.shutdown after.fairing after.shutdown)

-- one that is called at a shutdown
abbrev pub shutting : {H K N V F : Type 0}
    → (F → SeenView H K N V → Type 0)
    → Calling F (SeenView H K N V) (Unit {0}) (Unit {0}) (Unit {0})
shutting may = at_once (λ fairing view task. ⊤) (λ fairing view before answer after. may fairing view)

pub lifting_keeps : {H K N V F : Type 0} (may : F → SeenView H K N V → Handle → F → Handle → Type 0)
    → KeepsLiftoff (lifting may)
lifting_keeps may = record {
  done = λ view before after gates answer is. is.1;
  begun = λ view task before now gates n begun. begun.1;
}

-- A change that is made once was made, and is not there any more; where it was not there, nothing is changed. C is the type of
-- the change, X that of what it changes.
abbrev pub once : {C X : Type 0} → (C → X → C → X → Type 0) → Option C → X → Option C → X → Type 0
once {C} may change before left after =
    (left ≡ None) × MatchOption change (after ≡ before) (λ one. (made : C) × may one before made after)

-- the same of a change that answers: where it was not there, the answer is Ok
abbrev pub tried_once : {C X E : Type 0} → (C → X → Result (Unit {0}) E → C → X → Type 0) → Option C → X → Result (Unit {0}) E
    → Option C → X → Type 0
tried_once {C} may change before answer left after =
    (left ≡ None)
    × MatchOption change ((answer ≡ Ok tt) × (after ≡ before)) (λ one. (made : C) × may one before answer made after)
