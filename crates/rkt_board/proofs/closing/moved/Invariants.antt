use Rattle.std.proofs.Common.{◌≡◌, ◌≤◌, ◌+◌, ◌++◌, vec_len, vec_capacity}
use Rattle.rkt_board.specs.Records.{events}
use Rattle.rkt_board.proofs.closing.moved.Given as goal

-- what was moved, and what is left, are all
abbrev pub invariant-loop-logged : goal.invariant-loop-logged
invariant-loop-logged g l = (l.history.items ++ events l.logged-iterator.rest.items ≡ l.fn.history.items ++ events l.fn.records.items)
    × (vec_len l.history + l.logged-iterator.rest.len ≤ vec_capacity l.history)
