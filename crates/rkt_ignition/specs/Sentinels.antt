-- What is asked before a rocket may be launched.
use Rattle.std.specs.Prelude.{◌≡◌, ◌||◌, ℕ, List, Bool}
use Rattle.rkt_config.specs.declared.config.Config.{Config}

-- what a sentinel sees of a rocket; V is the type of managed values
pub record SeenIgnited (V : Type 0) : Type 0 where
  pub config : Config
  pub managed : List (ℕ × V)

-- both of two are asked, and one of them that is true is enough
abbrev pub MayEither : {V : Type 0} → (SeenIgnited V → Bool → Type 0) → (SeenIgnited V → Bool → Type 0) → SeenIgnited V → Bool
    → Type 0
MayEither One Other rocket abort =
    (one : Bool) × (other : Bool) × One rocket one × Other rocket other × (abort ≡ (one || other))
