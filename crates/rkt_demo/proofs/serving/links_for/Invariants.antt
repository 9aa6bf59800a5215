use Rattle.std.proofs.Common.{◌≡◌, map}
use Rattle.std.specs.List.{AllByRecursion}
use Rattle.rkt_link.specs.Memory.{IsUnused, asked_of}
use Rattle.rkt_demo.specs.Shown.{asked_for}
use Rattle.rkt_demo.proofs.serving.links_for.Given as goal

abbrev pub invariant-loop-request : goal.invariant-loop-request
invariant-loop-request l = (map asked_of l.links.items ≡ map asked_for l.yielded) × AllByRecursion IsUnused l.links.items
