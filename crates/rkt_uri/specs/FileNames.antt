-- Paths that stay below where they begin.
use Rattle.std.specs.Prelude.{ℕ, ◌≡◌, ◌≢◌, ◌==◌, not, List, [], All, codes}
use Rattle.std.specs.List.{join_with_byte}
use Rattle.rkt_grammar.specs.Bytes.{slash}
use Rattle.rkt_grammar.specs.Grammar.{OnlyOf}

-- a name of a file or of a folder
pub record IsName (name : List ℕ) : Type 0 where
  pub not_empty : name ≢ []
  pub no_dot : name ≢ codes "."
  pub no_dots : name ≢ codes ".."
  pub no_slash : OnlyOf (λ b. not (b == slash)) name

-- the path goes down by names alone, with a slash between two of them: it neither begins at the root nor goes up
abbrev pub GoesDown : List ℕ → Type 0
GoesDown path = (names : List (List ℕ)) × All IsName names × (path ≡ join_with_byte slash names)
