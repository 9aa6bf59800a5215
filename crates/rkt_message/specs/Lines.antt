-- The lines of a header map, and the one that tells the size of a body.
use Rattle.std.specs.Fmt.{decimal}
use Rattle.std.specs.Prelude.{ℕ, List, [], ◌∷◌, Bool, not, Option, None, Some, map, filter, codes, if◌then◌else◌}
use Rattle.std.specs.Str.{str_eq_ignore_ascii_case}
use Rattle.rkt_http.specs.Headers.{Field, Group, fields_of}

-- a name and a value
abbrev pub Line : Type 0
Line = List ℕ × List ℕ

abbrev pub line_of : Field → Line
line_of field = (field.name, field.value)

-- group by group, and in each value by value
abbrev pub lines_of : List Group → List Line
lines_of groups = map line_of (fields_of groups)

abbrev pub is_length : Line → Bool
is_length line = str_eq_ignore_ascii_case line.0 (codes "Content-Length")

-- without Content-Length
abbrev pub without_length : List Line → List Line
without_length lines = filter (λ line. not (is_length line)) lines

-- with this size as the only Content-Length, at the place and in the spelling of the first, or else behind the others
abbrev pub with_length : ℕ → List Line → List Line
with_length size [] = (codes "Content-Length", decimal size) ∷ []
with_length size (line ∷ lines) =
    if is_length line then (line.0, decimal size) ∷ without_length lines else line ∷ with_length size lines

-- with this size as the only Content-Length, or with none
abbrev pub only_length : Option ℕ → List Line → List Line
only_length None lines = without_length lines
only_length (Some size) lines = with_length size lines
