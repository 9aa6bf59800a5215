-- Links that nobody has used.
use Rattle.std.specs.Prelude.{◌++◌, List, [], ◌∷◌}
use Rattle.std.specs.List.{AllByRecursion}
use Rattle.rkt_link.specs.Memory.{LinkInMemory, IsUnused}

pub unused_push : (links : List LinkInMemory) (link : LinkInMemory) → AllByRecursion IsUnused links → IsUnused link → AllByRecursion IsUnused (links ++ link ∷ [])
unused_push [] link all here = (here, tt)
unused_push (l ∷ ls) link all here = (all.0, unused_push ls link all.1 here)
