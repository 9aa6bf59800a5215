-- The names of kinds, as they are written.
use Rattle.std.specs.Prelude.{◌++◌, ℕ, [], List, Bool, true, false, codes}

-- a name that is there, behind a comma where one was written before it
abbrev pub next_name : Bool → Bool → List ℕ → List ℕ
next_name named false name = []
next_name false true name = name
next_name true true name = codes ", " ++ name
