use Rattle.std.proofs.Common.{◌≡◌, ◌++◌, map}
use Rattle.rkt_message.specs.Lines.{line_of, lines_of}
use Rattle.rkt_message.proofs.head.all_lines.Given as goal

-- the lines so far, and those of the fields that are left
abbrev pub invariant-loop-name : goal.invariant-loop-name
invariant-loop-name l = l.lines ++ map line_of l.name-iterator ≡ lines_of l.headers
