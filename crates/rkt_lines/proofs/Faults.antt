-- Why a call of the builder fails, of what a call below answered.
use Rattle.std.proofs.Common.{◌≡◌, Err, IfErr, Ok, Result}
use Rattle.std.specs.Result.{IsErrAnd}
use Rattle.rkt_base.specs.Want.{IfRefused}
use Rattle.rkt_base.specs.declared.want.Want.{Want}
use Rattle.rkt_base.specs.declared.want.Want.TheVariants.{NoMemory, Refused}
use Rattle.rkt_life.specs.BuildError.{of_want}
use Rattle.rkt_life.specs.Handed.{IfHanded}
use Rattle.rkt_life.specs.declared.build_error.BuildError.{BuildError}
use Rattle.rkt_life.specs.declared.build_error.BuildError.TheVariants.{NoMemory as OutOfMemory}
use Rattle.rkt_life.specs.declared.handed.Handed.{Handed}

module _ (Fault : BuildError → Type 0) (memory : Fault OutOfMemory) where
  -- for the cause that was told below
  pub told_fault : {T U E : Type 0} (called : E → BuildError) (Cause : E → Type 0) → ((e : E) → Cause e → Fault (called e))
      → (below : Result T (Want E)) (want : Want E) (result : Result U BuildError) → below ≡ Err want → IsErrAnd result (λ error. error ≡ of_want called want)
      → IfRefused below Cause → IfErr result Fault
  told_fault called Cause each below want (Ok x) was is refused = tt
  told_fault called Cause each below (Refused e) (Err error) was is refused = rw is (each e (rw was at refused))
  told_fault called Cause each below NoMemory (Err error) was is refused = rw is memory

  -- for want of memory alone, where what the refusal below contradicts holds
  pub only_memory : {R U E : Type 0} (called : E → BuildError) (Holds : Type 0) → Holds
      → (below : Result R (Handed R (Want E))) (handed : Handed R (Want E)) (want : Want E) (result : Result U BuildError) → below ≡ Err handed → handed.error ≡ want
      → IsErrAnd result (λ error. error ≡ of_want called want) → IfHanded below (λ _. ¬ Holds) → IfErr result Fault
  only_memory called Holds holds below handed want (Ok x) was told is refused = tt
  only_memory called Holds holds below handed (Refused e) (Err error) was told is refused = absurd ((rw told at (rw was at refused)) holds)
  only_memory called Holds holds below handed NoMemory (Err error) was told is refused = rw is memory
