use denote.Shadow.{shadow}
use denote.Text.{Utf8}
use Rattle.std.proofs.Common.{◌≡◌, ◌++◌, List, length, map}
use Rattle.rkt_media.specs.Runs.{behind_run}
use Rattle.rkt_media.specs.Media.{Media}
use Rattle.rkt_media.specs.Accept.{weighed}
use Rattle.rkt_media.specs.AcceptText.{is_gap, ListsMedia}
use Rattle.rkt_media.proofs.accept_read.read_entries.Given as goal

-- what is left is a text that begins with no gap, and lists the media types that are not read yet
abbrev pub invariant-reading : goal.invariant-reading
invariant-reading l =
    (shadow (Utf8 l.rest))
    × (behind_run is_gap l.rest ≡ l.rest)
    × ((types : List Media) → ListsMedia types l.fn.text → (left : List Media) × (map weighed types ≡ l.entries.items ++ map weighed left) × ListsMedia left l.rest)

abbrev pub decreases-reading : goal.decreases-reading
decreases-reading l = length l.rest
