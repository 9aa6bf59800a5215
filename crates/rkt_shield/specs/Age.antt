-- How long a browser keeps to a policy.
use Rattle.std.specs.Prelude.{ℕ, List, ◌++◌, codes}
use Rattle.std.specs.Fmt.{decimal}

-- an age in seconds, and what stands behind it
abbrev pub max_age : ℕ → List ℕ → List ℕ
max_age age rest = codes "max-age=" ++ decimal age ++ rest
