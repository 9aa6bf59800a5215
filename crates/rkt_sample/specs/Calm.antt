-- How long the source of a body is not cut off, by the Gates under which its machine is called.
use Rattle.std.specs.Prelude.{◌≡◌, ◌⊎◌, ◌≤◌, ◌<◌, ◌+◌, ⊤, ℕ, List, [], ◌∷◌, Option, None, Some, true, false}
use Rattle.std.specs.Option.{IfSome}
use Rattle.rkt_source.specs.Cancel.{advanced, is_open}
use Rattle.rkt_source.specs.declared.stage.Stage.{Stage}
use Rattle.rkt_source.specs.declared.stage.Stage.TheVariants.{Active, Grace, Mercy, Gone}
use Rattle.rkt_router.specs.Calls.{GateRule}
use Rattle.rkt_source.specs.declared.source.Gate.{Gate}

-- no call of the machine under these Gates, one after another, is refused
abbrev pub KeepsOpen : List Gate → Stage → Type 0
KeepsOpen [] stage = ⊤
KeepsOpen (gate ∷ gates) stage = (is_open (advanced gate stage) ≡ true) × KeepsOpen gates (advanced gate stage)

-- the moments of a window are all within one grace, which is the first of these delays
abbrev pub IsWithinGrace : Option (ℕ × ℕ) → Option (ℕ × ℕ) → Type 0
IsWithinGrace None delays = ⊥
IsWithinGrace (Some window) None = ⊥
IsWithinGrace (Some window) (Some delays) = window.1 < window.0 + delays.0

-- under Gates of a rule nothing is cut off: they show no trip, or their moments are all within one grace
abbrev pub IsCalm : GateRule → Type 0
IsCalm rule = (rule.may_trip ≡ false) ⊎ IsWithinGrace rule.window rule.delays

-- calls under Gates of a rule may have led the machine here, none of which was refused
abbrev pub StillOpen : GateRule → Stage → Type 0
StillOpen rule Active = ⊤
StillOpen rule (Grace saw) = (rule.may_trip ≡ true) × IfSome rule.window (λ window. window.0 ≤ saw)
StillOpen rule (Mercy saw cut) = ⊥
StillOpen rule (Gone saw cut) = ⊥
