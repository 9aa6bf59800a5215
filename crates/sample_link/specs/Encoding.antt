-- The bytes that a piece is written as.
use Rattle.std.specs.Prelude.{ℕ, ◌++◌, List, [], codes, flat_map}
use Rattle.std.specs.Fmt.{decimal}
use Rattle.rkt_message.specs.declared.piece.Piece.{Piece}
use Rattle.rkt_message.specs.declared.piece.Piece.TheVariants.{Head, Chunk, End}

-- the first line of a response
abbrev pub status_line : ℕ → List ℕ
status_line status = codes "HTTP/1.1 " ++ decimal status ++ codes "\r\n"

-- the line of a header, its name and its value
abbrev pub field_line : List ℕ × List ℕ → List ℕ
field_line field = field.0 ++ codes ": " ++ field.1 ++ codes "\r\n"

-- a head as its lines and an empty one, a chunk as its bytes, and the end as nothing
abbrev pub encoding : Piece → List ℕ
encoding (Head status headers) = status_line status ++ flat_map field_line headers ++ codes "\r\n"
encoding (Chunk bytes) = bytes
encoding End = []
