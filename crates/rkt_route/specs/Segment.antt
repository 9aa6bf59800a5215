-- The segments of a route, and how much of a path or a query is dynamic.
use Rattle.std.specs.Prelude.{ℕ, ◌-◌, List, true, false, Option, Some, None, codes, length, take, drop, option_and_then, if◌then◌else◌}
use Rattle.std.specs.List.{list_any, list_all}
use Rattle.std.specs.Str.{bytes_eq}
use Rattle.rkt_route.specs.declared.color.Color.{Color}
use Rattle.rkt_route.specs.declared.color.Color.TheVariants.{Static, Partial, Wild}
use Rattle.rkt_route.specs.declared.segment.Segment.{Segment}

-- the text without this front, if it has it
abbrev pub without_front : List ℕ → List ℕ → Option (List ℕ)
without_front front text = if bytes_eq (take (length front) text) front then Some (drop (length front) text) else None

-- the text without this end, if it has it
abbrev pub without_end : List ℕ → List ℕ → Option (List ℕ)
without_end end text =
    if bytes_eq (drop (length text - length end) text) end then Some (take (length text - length end) text) else None

-- what stands in angle brackets, if the text does
abbrev pub in_brackets : List ℕ → Option (List ℕ)
in_brackets text = option_and_then (without_end (codes ">")) (without_front (codes "<") text)

-- a dynamic segment: its name, and the name before two dots where it ends with these, which makes it trailing
abbrev pub dynamic_segment : List ℕ → Option (List ℕ) → Segment
dynamic_segment name None = record { value = name; dynamic = true; trailing = false }
dynamic_segment name (Some front) = record { value = front; dynamic = true; trailing = true }

-- a segment that stands for itself, or a dynamic one by its name in brackets
abbrev pub segment_by : List ℕ → Option (List ℕ) → Segment
segment_by text None = record { value = text; dynamic = false; trailing = false }
segment_by text (Some name) = dynamic_segment name (without_end (codes "..") name)

-- `<name..>` is a trailing segment and `<name>` a dynamic one; any other text stands for itself
abbrev pub segment_of : List ℕ → Segment
segment_of text = segment_by text (in_brackets text)

-- static without a dynamic segment, wild where there are only such, and else partial
abbrev pub color_of : List Segment → Color
color_of segments =
    if list_any (λ s. s.dynamic) segments then (if list_all (λ s. s.dynamic) segments then Wild else Partial) else Static

-- what a color weighs in a rank
abbrev pub weight : Color → ℕ
weight Static = 3
weight Partial = 2
weight Wild = 1
