-- The word that `/stop` tells.
use Rattle.std.specs.Prelude.{zero, suc, ℕ, Option, Some, None}
use Rattle.rkt_request.specs.Lent.{Kept}
use Rattle.rkt_turn.specs.Shutdown.{Handle}

-- what was seen once a word is told: what was seen before or, where that was nothing, this word
abbrev pub seen_then : ℕ → ℕ → ℕ
seen_then zero word = word
seen_then (suc n) word = suc n

-- a handle that is told a word
abbrev pub told : ℕ → Handle → Handle
told word handle = record handle { seen = seen_then handle.seen word }

-- with a word told, if one is; C is the type of cached values
abbrev pub with_word : {C : Type 0} → Option ℕ → Kept C → Kept C
with_word None kept = kept
with_word (Some word) kept = record kept { shutdown = told word kept.shutdown }
