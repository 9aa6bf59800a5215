-- Where a reader stands in an origin, and what may follow.
use Rattle.std.specs.Prelude.{ℕ, List, Bool, true, false, ◌==◌, if◌then◌else◌, Option, Some, None}
use Rattle.rkt_grammar.specs.Bytes.{slash, question_mark}
use Rattle.rkt_grammar.specs.Grammar.{OnlyOf}
use Rattle.rkt_uri.specs.Origin.{is_path_byte, is_query_byte, IsOrigin, IsPathRest}
use Rattle.rkt_uri.specs.declared.origin_place.OriginPlace.{OriginPlace}
use Rattle.rkt_uri.specs.declared.origin_place.OriginPlace.TheVariants.{Start, InPath, InQuery}

abbrev pub place_after : OriginPlace → ℕ → Option OriginPlace
place_after (Start profile) b = if b == slash then Some (InPath profile) else None
place_after (InPath profile) b =
    if b == question_mark then Some (InQuery profile) else (if is_path_byte profile b then Some (InPath profile) else None)
place_after (InQuery profile) b = if is_query_byte profile b then Some (InQuery profile) else None

abbrev pub may_end : OriginPlace → Bool
may_end (Start profile) = false
may_end (InPath profile) = true
may_end (InQuery profile) = true

-- what may follow
abbrev pub rest_of : OriginPlace → List ℕ → Type 0
rest_of (Start profile) text = IsOrigin profile text
rest_of (InPath profile) text = IsPathRest profile text
rest_of (InQuery profile) text = OnlyOf (is_query_byte profile) text
