-- The text that tells how requests ended.
use Rattle.std.specs.Prelude.{ℕ, ◌++◌, List, [], codes, flat_map, length}
use Rattle.std.specs.Fmt.{decimal}
use Rattle.rkt_message.specs.declared.piece.Piece.{Piece}
use Rattle.rkt_message.specs.declared.piece.Piece.TheVariants.{Head, Chunk, End}

-- the line of a header, its name and its value
abbrev pub header_line : List ℕ × List ℕ → List ℕ
header_line header = header.0 ++ codes ": " ++ header.1 ++ codes "\n"

-- what a piece tells of the head: the status, and a line for each header
abbrev pub head_text : Piece → List ℕ
head_text (Head status headers) = decimal status ++ codes "\n" ++ flat_map header_line headers
head_text (Chunk bytes) = []
head_text End = []

-- what a piece adds to the body
abbrev pub body_bytes : Piece → List ℕ
body_bytes (Head status headers) = []
body_bytes (Chunk bytes) = bytes
body_bytes End = []

-- the number of a request, which begins its section
abbrev pub label : ℕ → List ℕ
label k = codes "#" ++ decimal k ++ codes " "

-- the section of a request that was answered: the head, the size of the body, and the body
abbrev pub answered_section : ℕ → List ℕ → List ℕ → List ℕ
answered_section k head body =
    label k ++ codes "Answered " ++ head ++ decimal (length body) ++ codes " bytes\n" ++ body ++ codes "\n"

-- the same, by the pieces that were sent
abbrev pub sent_section : ℕ → List Piece → List ℕ
sent_section k pieces = answered_section k (flat_map head_text pieces) (flat_map body_bytes pieces)

-- the section of a request whose response could not be sent
abbrev pub failed_section : ℕ → List ℕ
failed_section k = label k ++ codes "Failed\n"

-- the section of a request whose link failed before it had the whole response
abbrev pub lost_section : ℕ → List ℕ
lost_section k = label k ++ codes "Lost\n"

-- the section of a request whose link was cut off before it had the whole response
abbrev pub cut_section : ℕ → List ℕ
cut_section k = label k ++ codes "Cut\n"

-- the section of a request whose exchange was abandoned
abbrev pub abandoned_section : ℕ → List ℕ
abandoned_section k = label k ++ codes "Abandoned\n"

-- the section of a request for which there was no memory
abbrev pub starved_section : ℕ → List ℕ
starved_section k = label k ++ codes "Starved\n"

-- the last line, with the number of requests
abbrev pub last_line : ℕ → List ℕ
last_line count = codes "served " ++ decimal count ++ codes "\n"
