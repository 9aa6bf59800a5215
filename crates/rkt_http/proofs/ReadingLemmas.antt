-- What a text is read as by a call that parses it.
use Rattle.std.proofs.Common.{◌≡◌, ◌↔◌, ℕ, List, Option, Some, None, Result, Ok, Err, IfOk, refl, subst, sym}
use Rattle.std.specs.Prelude.{IsErr}
use Rattle.rkt_base.specs.Want.{IfRefused, GivesUnlessNoMemory}
use Rattle.rkt_base.specs.declared.want.Want.{Want}
use Rattle.rkt_base.specs.declared.want.Want.TheVariants.{Refused, NoMemory}
use Rattle.rkt_http.specs.Reading.{ReadAs}

-- what is accepted is spelled so, and what is spelled so is accepted: then what was accepted is what the text is read as
pub ReadAs-accepted : {X E F : Type 0} (Spells : List ℕ → X → Type 0) (text : List ℕ) (given : Result X (Want E)) (read : Result (Option X) F)
    → IfOk given (λ x. read ≡ Ok (Some x)) → IfRefused given (λ _. read ≡ Ok None) → IsErr read ↔ (given ≡ Err NoMemory)
    → IfOk given (Spells text) → ((x : X) → Spells text x → GivesUnlessNoMemory given x) → IfOk read (ReadAs Spells text)
ReadAs-accepted Spells text (Ok x) read value refused no_memory spelled complete = subst (λ r. IfOk r (ReadAs Spells text)) (sym value) spelled
ReadAs-accepted Spells text (Err (Refused e)) read value refused no_memory spelled complete =
    subst (λ r. IfOk r (ReadAs Spells text)) (sym refused) (λ x spells. let impossible = complete x spells in cc)
ReadAs-accepted Spells text (Err NoMemory) (Ok found) value refused no_memory spelled complete = let impossible = no_memory.1 refl in cc
ReadAs-accepted Spells text (Err NoMemory) (Err e) value refused no_memory spelled complete = tt
