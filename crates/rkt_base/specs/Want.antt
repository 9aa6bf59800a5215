-- What a call answers that may refuse its input or find no memory.
use Rattle.std.specs.Prelude.{◌≡◌, ⊤, Result, Ok, Err}
use Rattle.rkt_base.specs.declared.want.Want.{Want}
use Rattle.rkt_base.specs.declared.want.Want.TheVariants.{Refused, NoMemory}

-- a fact of the reason, where the call refused
abbrev pub IfRefused : {T E : Type 0} → Result T (Want E) → (E → Type 0) → Type 0
IfRefused (Ok x) P = ⊤
IfRefused (Err (Refused e)) P = P e
IfRefused (Err NoMemory) P = ⊤

-- the call gave this value, or memory ran out
abbrev pub GivesUnlessNoMemory : {T E : Type 0} → Result T (Want E) → T → Type 0
GivesUnlessNoMemory (Ok x) value = x ≡ value
GivesUnlessNoMemory (Err e) value = e ≡ NoMemory

-- the call gave, seen by view, what a function on lists answers, or memory ran out
abbrev pub Gives : {T U E : Type 0} → (T → U) → Result T (Want E) → Result U E → Type 0
Gives view (Ok x) answer = answer ≡ Ok (view x)
Gives view (Err (Refused e)) answer = answer ≡ Err e
Gives view (Err NoMemory) answer = ⊤
