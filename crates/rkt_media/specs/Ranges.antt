-- What the list of accepted media types is, where it keeps what an empty one prefers.
use Rattle.std.specs.Prelude.{◌≡◌, ◌<◌, List, [], codes, length}
use Rattle.rkt_media.specs.Media.{bare}
use Rattle.rkt_media.specs.Accept.{Weighed}
use Rattle.rkt_media.specs.declared.accept.Ranges.{Ranges}
use Rattle.rkt_media.specs.declared.accept.Ranges.TheVariants.{Any, Listed}

abbrev pub entries_of : Ranges → List Weighed
entries_of (Any media) = []
entries_of (Listed entries) = entries.items

-- an empty list keeps what it prefers, and no other list is kept so
abbrev pub IsKept : Ranges → Type 0
IsKept (Any media) = media ≡ bare (codes "*") (codes "*")
IsKept (Listed entries) = 0 < length entries.items
