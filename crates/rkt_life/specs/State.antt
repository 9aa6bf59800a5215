-- What a rocket is made of, whatever its phase.
use Rattle.std.specs.Borrow.{Bor}
use Rattle.rkt_life.specs.declared.state.StateOf.{StateOf}
use Rattle.rkt_life.specs.declared.state.StateOf.TheVariants.{Build, Ignite, Orbit}

-- what is lent
abbrev pub lent : {B I O : Type 0} → StateOf (Bor B) (Bor I) (Bor O) → StateOf B I O
lent (Build building) = Build building.now
lent (Ignite rocket) = Ignite rocket.now
lent (Orbit rocket) = Orbit rocket.now
