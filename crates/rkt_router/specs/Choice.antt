-- How a catcher is chosen, one after another.
use Rattle.std.specs.Prelude.{◌<◌, ℕ, List, Option, Some, None, ⊤}
use Rattle.rkt_request.specs.Seen.{Seen}
use Rattle.rkt_router.specs.Catchers.{CatchesAt, OutranksAt}
use Rattle.rkt_route.specs.declared.catcher.Catcher.{Catcher}

-- the catcher at a position goes before the best so far, if there is one
abbrev pub BeatsBest : {C : Type 0} → List (Catcher C) → ℕ → Option ℕ → Type 0
BeatsBest catchers position None = ⊤
BeatsBest catchers position (Some best) = OutranksAt catchers position best

-- the catcher at this position is the best of the first n
pub record IsBestOf {C V : Type 0} (catchers : List (Catcher C)) (status : ℕ) (request : Seen V) (n position : ℕ) : Type 0 where
  pub within : position < n
  pub catches : CatchesAt catchers status request position
  pub highest : (q : ℕ) → q < n → CatchesAt catchers status request q → ¬ OutranksAt catchers q position
  pub first : (q : ℕ) → q < position → CatchesAt catchers status request q → OutranksAt catchers position q

-- the best of the first n catchers, if any is for the status
abbrev pub IsBestSoFar : {C V : Type 0} → List (Catcher C) → ℕ → Seen V → ℕ → Option ℕ → Type 0
IsBestSoFar catchers status request n None = (q : ℕ) → q < n → ¬ CatchesAt catchers status request q
IsBestSoFar catchers status request n (Some position) = IsBestOf catchers status request n position
