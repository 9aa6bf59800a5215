-- The lines of a header map, one by one.
use Rattle.std.proofs.Common.{◌≡◌, ◌++◌, ℕ, false, arith, List, [], ◌∷◌, Option, Some, None, map}
use Rattle.std.proofs.lemmas.Grind.{common_steps}
use Rattle.rkt_http.specs.Headers.{Field}
use Rattle.rkt_message.specs.Lines.{Line, line_of, is_length, only_length}

-- a line that does not tell the size stays
pub other_line : (lines : List Line) (size : Option ℕ) (name value : List ℕ) (rest : List Field) (all : List Line) → is_length (name, value) ≡ false
    → lines ++ only_length size (map line_of (record { name = name; value = value } ∷ rest)) ≡ all → (lines ++ (name, value) ∷ []) ++ only_length size (map line_of rest) ≡ all
other_line lines None name value rest all other before = grind (arith, common_steps, other, before)
other_line lines (Some size) name value rest all other before = grind (arith, common_steps, other, before)
