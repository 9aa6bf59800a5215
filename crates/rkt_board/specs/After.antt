-- Lists in which each element may follow those before it.
use Rattle.std.specs.Prelude.{List, [], ◌∷◌, ◌++◌}

module _ {X : Type 0} (May : List X → X → Type 0) where
  -- each of the elements may follow `before` and the elements in front of it
  abbrev pub AfterFrom : List X → List X → Type 0
  AfterFrom before [] = Unit {0}
  AfterFrom before (x ∷ xs) = May before x × AfterFrom (before ++ x ∷ []) xs
