use Rattle.std.specs.List.{AllByRecursion}
use Rattle.cases_demo.specs.Sourced.{IsUnused}
use Rattle.cases_demo.proofs.fails.links_for.Given as goal

abbrev pub invariant-loop-request : goal.invariant-loop-request
invariant-loop-request l = AllByRecursion IsUnused l.links.items
