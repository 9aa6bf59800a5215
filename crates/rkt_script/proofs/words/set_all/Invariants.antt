use Rattle.std.proofs.Common.{length, map, string_bytes}
use Rattle.rkt_script.specs.Words.{Settings, Table}
use Rattle.rkt_script.proofs.words.set_all.Given as goal

-- what the rest sets, the whole sets, and the other way
abbrev pub invariant-loop-flag : goal.invariant-loop-flag
invariant-loop-flag l =
    ((table : Table) → Settings (map string_bytes l.rest) l.table table → Settings (map string_bytes l.words) l.initial.table table)
    × ((table : Table) → Settings (map string_bytes l.words) l.initial.table table → Settings (map string_bytes l.rest) l.table table)

abbrev pub decreases-loop-flag : goal.decreases-loop-flag
decreases-loop-flag l = length l.rest
