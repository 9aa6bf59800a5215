-- References, as this project takes them: printable ASCII without the marks that end a quotation.
use Rattle.std.specs.Prelude.{ℕ, List, Bool, ◌==◌, ◌&&◌, nat_le, not}
use Rattle.rkt_grammar.specs.Bytes.{quotation_mark, less_than_sign, greater_than_sign}
use Rattle.rkt_grammar.specs.Grammar.{OnlyOf}

-- the bytes 33 to 126 without the double quotation mark and the angle brackets
abbrev pub is_reference_byte : ℕ → Bool
is_reference_byte b =
    nat_le 33 b && nat_le b 126 && not (b == quotation_mark) && not (b == less_than_sign) && not (b == greater_than_sign)

-- the text is a reference, maybe an empty one
abbrev pub IsReference : List ℕ → Type 0
IsReference text = OnlyOf is_reference_byte text
