-- Pieces with a slash between each two.
use Rattle.std.specs.Prelude.{ℕ, List, [], ◌∷◌, ◌++◌, String, string_bytes}
use Rattle.std.specs.declared.alloc.Global.{Global}
use Rattle.rkt_grammar.specs.Bytes.{slash}
use Rattle.rkt_config.specs.declared.joined.Joined.{Joined}

-- the pieces, each behind a slash
abbrev pub behind_slashes : List (String Global) → List ℕ
behind_slashes [] = []
behind_slashes (piece ∷ pieces) = slash ∷ (string_bytes piece ++ behind_slashes pieces)

-- the bytes that are left
abbrev pub bytes_of : Joined → List ℕ
bytes_of joined = joined.piece.now ++ behind_slashes joined.pieces.now
