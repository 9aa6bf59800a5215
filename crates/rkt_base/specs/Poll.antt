-- Facts about the answer of a poll.
use Rattle.std.specs.Prelude.{Result, Ok, Err, ⊤}
use Rattle.rkt_base.specs.declared.poll.Poll.{Poll}
use Rattle.rkt_base.specs.declared.poll.Poll.TheVariants.{Ready, Pending}

-- a fact of the value, where it is ready
abbrev pub IfReady : {T : Type 0} → Poll T → (T → Type 0) → Type 0
IfReady (Ready x) P = P x
IfReady Pending P = ⊤

-- a fact of the value, where the poll answered Ok
abbrev pub IfReadyOk : {T E : Type 0} → Poll (Result T E) → (T → Type 0) → Type 0
IfReadyOk (Ready (Ok x)) P = P x
IfReadyOk (Ready (Err e)) P = ⊤
IfReadyOk Pending P = ⊤

-- a fact of the error, where the poll answered Err
abbrev pub IfReadyErr : {T E : Type 0} → Poll (Result T E) → (E → Type 0) → Type 0
IfReadyErr (Ready (Ok x)) P = ⊤
IfReadyErr (Ready (Err e)) P = P e
IfReadyErr Pending P = ⊤

-- a fact, where the poll did not answer Ok
abbrev pub UnlessReadyOk : {T E : Type 0} → Poll (Result T E) → Type 0 → Type 0
UnlessReadyOk (Ready (Ok x)) P = ⊤
UnlessReadyOk (Ready (Err e)) P = P
UnlessReadyOk Pending P = P
