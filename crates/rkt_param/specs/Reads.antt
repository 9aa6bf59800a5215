-- What a parameter gives: a value, or the error that refuses it.
use Rattle.std.specs.Prelude.{◌≡◌, ⊤, ℕ, List, Option, Some, None, Result, Ok, Err, String, string_bytes, map, Vec}
use Rattle.std.specs.Option.{IsSomeAnd}
use Rattle.std.specs.Result.{IsOkAnd, result_ok}
use Rattle.std.specs.declared.alloc.Global.{Global}
use Rattle.rkt_base.specs.declared.want.Want.{Want}
use Rattle.rkt_base.specs.declared.want.Want.TheVariants.{Refused, NoMemory}

-- the call answers so, or memory ran out
abbrev pub UnlessNoMemory : {T E : Type 0} → (Result T E → Type 0) → Result T (Want E) → Type 0
UnlessNoMemory Answers (Ok x) = Answers (Ok x)
UnlessNoMemory Answers (Err (Refused e)) = Answers (Err e)
UnlessNoMemory Answers (Err NoMemory) = ⊤

-- the value that std's FromStr gives of a text, and the text itself where it gives an error
abbrev pub StdReads : {X E : Type 0} → (List ℕ → Result X E → Type 0) → List ℕ → Result X (String Global) → Type 0
StdReads Gives text (Ok x) = Gives text (Ok x)
StdReads Gives text (Err e) = (string_bytes e ≡ text) × ((error : _) × Gives text (Err error))

-- the text itself
abbrev pub TakesText : {E : Type 0} → List ℕ → Result (String Global) E → Type 0
TakesText text r = IsOkAnd r (λ s. string_bytes s ≡ text)

-- the texts themselves
abbrev pub TakesTexts : {E : Type 0} → List (List ℕ) → Result (Vec (String Global) Global) E → Type 0
TakesTexts texts r = IsOkAnd r (λ v. map string_bytes v.items ≡ texts)

-- always a value: what was read, be it a value or an error
abbrev pub KeepsAnswer : {I X E F : Type 0} → (I → Result X E → Type 0) → I → Result (Result X E) F → Type 0
KeepsAnswer Reads given r = IsOkAnd r (Reads given)

-- always a value: what was read, or none in place of an error
abbrev pub KeepsValue : {I X E F : Type 0} → (I → Result X E → Type 0) → I → Result (Option X) F → Type 0
KeepsValue Reads given r = IsOkAnd r (λ found. (answer : _) × Reads given answer × (found ≡ result_ok answer))

-- what is read of a text that may be missing; where it is, there is no answer
abbrev pub MaybeReads : {X E : Type 0} → (List ℕ → Result X E → Type 0) → Option (List ℕ) → Option (Result X (Want E)) → Type 0
MaybeReads Reads None answer = answer ≡ None
MaybeReads Reads (Some text) answer = IsSomeAnd answer (UnlessNoMemory (Reads text))
