use Rattle.std.specs.List.{AllByRecursion}
use Rattle.rkt_link.specs.Memory.{IsUnused}
use Rattle.cases_serve.proofs.heads.links_of.Given as goal

abbrev pub invariant-loop-piece : goal.invariant-loop-piece
invariant-loop-piece l = AllByRecursion IsUnused l.links.items
