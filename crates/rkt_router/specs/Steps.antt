-- What is said of a step.
use Rattle.rkt_router.specs.declared.step.Step.{Step}
use Rattle.rkt_router.specs.declared.step.Step.TheVariants.{Done, Fault, Pending, Starved}

-- a fact of what a step answers, and one of want of memory; there is no other step
abbrev pub StepsTo : {A : Type 0} → Step A → (A → Type 0) → Type 0 → Type 0
StepsTo (Done answer) Answered Starves = Answered answer
StepsTo Starved Answered Starves = Starves
StepsTo Pending Answered Starves = ⊥
StepsTo Fault Answered Starves = ⊥
