use Rattle.std.proofs.Common.{◌≡◌, ◌++◌, length}
use Rattle.rkt_http.specs.Headers.{group_fields, fields_of}
use Rattle.rkt_http.proofs.header_iter.HeaderIterIterator.next.Given as goal

-- the same fields are left
abbrev pub invariant-loop-self : goal.invariant-loop-self
invariant-loop-self l =
    group_fields (record { name = l.self-inside.name.now; values = l.self-inside.values.now }) ++ fields_of l.self-inside.entries.now ≡ l.fn.self

abbrev pub decreases-loop-self : goal.decreases-loop-self
decreases-loop-self l = length l.self-inside.entries.now
