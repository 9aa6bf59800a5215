-- The items of a list for contracts alone.
use Rattle.std.specs.Prelude.{List, [], ◌∷◌, ◌++◌}
use Rattle.rkt_base.specs.declared.trail.Made.{Made}
use Rattle.rkt_base.specs.declared.trail.Made.TheVariants.{Nothing, More}

abbrev pub items_of : {T : Type 0} → Made T → List T
items_of Nothing = []
items_of (More before item) = before.value ++ item.value ∷ []
