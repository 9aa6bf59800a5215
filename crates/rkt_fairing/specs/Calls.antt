-- One call at liftoff or at a shutdown, and what it gives by how it ended.
use Rattle.std.specs.Prelude.{◌≡◌, [], ℕ, max}
use Rattle.rkt_router.specs.Calling.{Calling}
use Rattle.rkt_router.specs.Calls.{Gives}
use Rattle.rkt_router.specs.declared.turn.Final.{Final}
use Rattle.rkt_router.specs.declared.turn.Final.TheVariants as final
use Rattle.rkt_turn.specs.HandsBack.{HandsBack}
use Rattle.rkt_turn.specs.Shutdown.{Handle}
use Rattle.rkt_fairing.specs.Life.{LiftoffAt, SeenView}
use Rattle.rkt_fairing.specs.declared.slot.Slot.{Slot}
use Rattle.rkt_fairing.specs.declared.slot.Slot.TheVariants.{Shield, App}
use Rattle.rkt_fairing.specs.declared.called.Called.{Called}
use Rattle.rkt_fairing.specs.declared.called.Called.TheVariants as ends

-- H is the type of handlers, K that of catchers' handlers, N that of what sentries ask, V that of managed values, F that of
-- the application's fairings, Task that of their tasks

-- what a callback means that is called at liftoff
abbrev pub CallingAtLiftoff : (H K N V F Task : Type 0) → Type 1
CallingAtLiftoff H K N V F Task = Calling (Unit {0}) (SeenView H K N V) (LiftoffAt F) (Unit {0}) Task

-- what a callback means that is called at a shutdown: it changes nothing
abbrev pub CallingAtShutdown : (H K N V F Task : Type 0) → Type 1
CallingAtShutdown H K N V F Task = Calling F (SeenView H K N V) (Unit {0}) (Unit {0}) Task

-- how many turns are granted to a callback that is called of a rocket in orbit: none count as one
abbrev pub turns_of : {H K N V : Type 0} → SeenView H K N V → ℕ
turns_of view = max view.config.turns 1

-- what a whole call gave, by how it ended
abbrev pub reply_of : Called → Final (Unit {0})
reply_of ends.Done = final.Done tt
reply_of ends.FailedTurn = final.FailedTurn
reply_of ends.Starved = final.Starved

-- One whole call at liftoff of what is in a slot, how it ended, and what it leaves there and of the wire's handle: a shield is
-- done and changes nothing; a fairing of the application gives what its callback may where no Gate is shown, and fails its turn
-- only where that may answer Fault, or may be Pending as often as turns are granted; the handle stays one of its wire.
abbrev pub CalledAtLiftoff : {H K N V F Task : Type 0}
    → CallingAtLiftoff H K N V F Task → SeenView H K N V → Slot F → Handle → Called → Slot F → Handle → Type 0
CalledAtLiftoff calling view (Shield headers) before called left after =
    (called ≡ ends.Done) × (left ≡ Shield headers) × (after ≡ before)
CalledAtLiftoff {F = F} calling view (App fairing) before called left after =
    (changed : F)
    × (left ≡ App changed)
    × Gives calling tt view (turns_of view) (record { fairing = fairing; shutdown = before }) [] (reply_of called)
    (record { fairing = changed; shutdown = after })
    × HandsBack before after

-- One whole call at a shutdown of what is in a slot, and how it ended: a shield is done; a fairing of the application
-- ends as its callback may, in the same way.
abbrev pub CalledAtShutdown : {H K N V F Task : Type 0}
    → CallingAtShutdown H K N V F Task → SeenView H K N V → Slot F → Called → Type 0
CalledAtShutdown calling view (Shield headers) called = called ≡ ends.Done
CalledAtShutdown calling view (App fairing) called = Gives calling fairing view (turns_of view) tt [] (reply_of called) tt
