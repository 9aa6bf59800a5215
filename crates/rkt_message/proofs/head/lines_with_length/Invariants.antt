use Rattle.std.proofs.Common.{◌≡◌, ◌++◌, map}
use Rattle.rkt_message.specs.Lines.{line_of, lines_of, only_length}
use Rattle.rkt_message.proofs.head.lines_with_length.Given as goal

-- the lines so far, and what comes of the fields that are left
abbrev pub invariant-loop-name : goal.invariant-loop-name
invariant-loop-name l = l.lines ++ only_length l.size (map line_of l.name-iterator) ≡ only_length l.fn.size (lines_of l.headers)
