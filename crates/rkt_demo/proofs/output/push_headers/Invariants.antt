use Rattle.std.proofs.Common.{◌≡◌, ◌++◌, take, flat_map}
use Rattle.rkt_demo.specs.Output.{header_line}
use Rattle.rkt_demo.proofs.output.push_headers.Given as goal

abbrev pub invariant-loop-name : goal.invariant-loop-name
invariant-loop-name l = l.out.items ≡ l.initial.out.items ++ flat_map header_line (take l.name-index l.headers)
