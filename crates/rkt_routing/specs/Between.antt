-- What is known between two calls. X is the type of what a list of calls leads to.
use Rattle.std.specs.Prelude.{◌++◌, List}
use Rattle.rkt_turn.specs.Shutdown.{Handle}
use Rattle.rkt_routing.specs.Backs.{Backs}
use Rattle.rkt_routing.specs.declared.run.Call.{Call}

-- whatever completes the calls from here completes them from their beginning; the handle was this one then, and is this one now
pub record BetweenOf {X : Type 0} (Whole : List Call → X → Type 0) (first now : Handle) (calls : List Call)
    (Rest : List Call → X → Type 0) : Type 0 where
  pub leads : (rest : List Call) (x : X) → Rest rest x → Whole (calls ++ rest) x
  pub backs : Backs first now calls
