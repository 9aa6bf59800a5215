use Rattle.std.proofs.Common.{◌≡◌, ◌++◌, drop, map}
use Rattle.std.specs.Option.{option_copied}
use Rattle.rkt_demo.specs.Entries.{entries_text}
use Rattle.rkt_demo.proofs.output.print_entries.Given as goal

-- with the text of what is left, it is the whole text
abbrev pub invariant-loop-number : goal.invariant-loop-number
invariant-loop-number l =
    l.out.items ++ entries_text l.number (map (λ entry. option_copied entry) (drop l.number l.entries)) ≡ entries_text 0 (map (λ entry. option_copied entry) l.entries)
