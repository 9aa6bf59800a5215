-- Why a rocket could not be built, of what the calls of a builder answer.
use Rattle.rkt_base.specs.declared.want.Want.{Want}
use Rattle.rkt_base.specs.declared.want.Want.TheVariants.{NoMemory, Refused}
use Rattle.rkt_config.specs.declared.managed.DuplicateState.{DuplicateState}
use Rattle.rkt_life.specs.declared.build_error.BuildError.{BuildError}
use Rattle.rkt_life.specs.declared.build_error.BuildError.TheVariants.{Managed, NoMemory as OutOfMemory}

-- the reason as what it is called there, and want of memory as itself
abbrev pub of_want : {E : Type 0} → (E → BuildError) → Want E → BuildError
of_want called (Refused reason) = called reason
of_want called NoMemory = OutOfMemory

-- the key that has a value already, and want of memory as itself
abbrev pub of_duplicate : {V : Type 0} → Want (DuplicateState V) → BuildError
of_duplicate = of_want (λ duplicate. Managed duplicate.key)
