use Rattle.std.proofs.Common.{map, string_bytes}
use Rattle.rkt_base.specs.Want.{IfRefused}
use Rattle.rkt_base.specs.declared.want.Want.{Want}
use Rattle.rkt_base.specs.declared.want.Want.TheVariants.{Refused, NoMemory}
use Rattle.std.proofs.Common.{Err}
use Rattle.rkt_script.proofs.WordLemmas.{back}
use Rattle.rkt_script.proofs.words.set_all.Goals as goal

-- a cause of a refusal, by another one
refused_by : {E : Type 0} (T U : Type 0) (P Q : E → Type 0) (error : Want E) → ((e : E) → P e → Q e) → IfRefused {T = T} (Err error) P → IfRefused {T = U} (Err error) Q
refused_by T U P Q (Refused e) so known = so e known
refused_by T U P Q NoMemory so known = tt

pub returns-in-Err-clause-refused : goal.returns-in-Err-clause-refused
returns-in-Err-clause-refused c =
    refused_by (Unit {0}) (Unit {0}) _ _ c.in-Err.error (λ e bad table settings.
    bad (back (map string_bytes c.loop-flag.rest.now) c.in-Some.flag.now c.in-Some.word.now (map string_bytes c.in-Some.more.now) c.loop-flag.table table c.in-Some.ensures.parts (c.loop-flag.invariant.1 table settings)).1)
    c.in-Err.ensures.refused
