-- Bytes that are read in one run.
use Rattle.std.specs.Prelude.{ℕ, Bool}
use Rattle.rkt_grammar.specs.Grammar.{is_token_byte}
use Rattle.rkt_media.specs.MediaText.{is_blank}
use Rattle.rkt_media.specs.AcceptText.{is_gap}
use Rattle.rkt_media.specs.declared.byte_run.ByteClass.{ByteClass}
use Rattle.rkt_media.specs.declared.byte_run.ByteClass.TheVariants.{Token, Blank, Gap}

abbrev pub is_of : ByteClass → ℕ → Bool
is_of Token b = is_token_byte b
is_of Blank b = is_blank b
is_of Gap b = is_gap b
