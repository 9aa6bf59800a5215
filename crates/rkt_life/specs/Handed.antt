-- What a call answers that takes a rocket, and hands it back where it fails.
use Rattle.std.specs.Prelude.{⊤, Result, Ok, Err}
use Rattle.rkt_base.specs.Want.{IfRefused}
use Rattle.rkt_base.specs.declared.want.Want.{Want}
use Rattle.rkt_life.specs.declared.handed.Handed.{Handed}

-- a fact of the reason, where the call refused
abbrev pub IfHanded : {T R E : Type 0} → Result T (Handed R (Want E)) → (E → Type 0) → Type 0
IfHanded (Ok x) P = ⊤
IfHanded (Err handed) P = IfRefused {T = Unit {0}} (Err handed.error) P
