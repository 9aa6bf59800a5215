-- The grammar of an origin: a path that begins with a slash, and maybe a query.
use Rattle.std.specs.Prelude.{ℕ, ◌≡◌, List, [], ◌∷◌, ◌++◌, Bool, false, ◌==◌, ◌||◌, codes, Option, Some, None, IfSome, if◌then◌else◌, length, filter, map, not, unwrap_or}
use Rattle.std.specs.List.{list_any, before_first, after_first, slice_split, join_with_byte}
use Rattle.std.specs.Str.Lossy.{utf8_lossy}
use Rattle.rkt_grammar.specs.Bytes.{space, less_than_sign, greater_than_sign, question_mark, slash, plus_sign, equals_sign, ampersand}
use Rattle.percent_encoding.specs.Percent.{percent_decode}
use Rattle.rkt_grammar.specs.Grammar.{OnlyOf, behind_first, is_alphanumeric}
use Rattle.rkt_uri.specs.declared.origin_place.Profile.{Profile}
use Rattle.rkt_uri.specs.declared.origin_place.Profile.TheVariants.{Request, Route}

-- the angle brackets, which only a route may have
abbrev pub is_bracket : Profile → ℕ → Bool
is_bracket Request b = false
is_bracket Route b = b == less_than_sign || b == greater_than_sign

abbrev pub is_path_byte : Profile → ℕ → Bool
is_path_byte profile b = is_alphanumeric b || list_any (λ c. c == b) (codes "-._~%!$&'()*+,;=:@/") || is_bracket profile b

abbrev pub is_query_byte : Profile → ℕ → Bool
is_query_byte profile b = is_path_byte profile b || list_any (λ c. c == b) (codes "?[]{}|\\^`")

-- what an origin says: its path, with the slash at its front, and what follows the first question mark
pub record Target : Type 0 where
  pub path : List ℕ
  pub query : Option (List ℕ)

-- the text of a query, with its question mark
abbrev pub query_text : Option (List ℕ) → List ℕ
query_text None = []
query_text (Some query) = question_mark ∷ query

-- the text of an origin
abbrev pub spelling : Target → List ℕ
spelling target = target.path ++ query_text target.query

-- what has a spelling
pub record IsTarget (profile : Profile) (target : Target) : Type 0 where
  pub begins : (rest : List ℕ) × (target.path ≡ slash ∷ rest)
  pub path : OnlyOf (is_path_byte profile) target.path
  pub query : IfSome target.query (OnlyOf (is_query_byte profile))

-- the text spells this origin
pub record Spells (profile : Profile) (text : List ℕ) (target : Target) : Type 0 where
  pub fits : IsTarget profile target
  pub spelled : text ≡ spelling target

-- the text spells some origin
abbrev pub IsOrigin : Profile → List ℕ → Type 0
IsOrigin profile text = (target : Target) × Spells profile text target

abbrev pub is_question : ℕ → Bool
is_question b = b == question_mark

-- what follows the first question mark, if there is one
abbrev pub query_in : List ℕ → Option (List ℕ)
query_in text = behind_first is_question text

-- what a text says, cut at its first question mark
abbrev pub target_of : List ℕ → Target
target_of text = record { path = before_first is_question text; query = query_in text }

-- a text says what it spells, so it spells one origin at most
abbrev pub SaysWhatItSpells : Type 0
SaysWhatItSpells = (profile : Profile) (text : List ℕ) (target : Target) → Spells profile text target → target_of text ≡ target

abbrev pub is_slash : ℕ → Bool
is_slash b = b == slash

-- the pieces between the separators that are not empty
abbrev pub pieces : ℕ → List ℕ → List (List ℕ)
pieces separator text = filter (λ piece. not (length piece == 0)) (slice_split (λ b. b == separator) text)

-- percent-decoded, with the replacement character where that is no text
abbrev pub decoded : List ℕ → List ℕ
decoded piece = utf8_lossy (percent_decode piece)

abbrev pub raw_segments_of : Target → List (List ℕ)
raw_segments_of target = pieces slash target.path

abbrev pub segments_of : Target → List (List ℕ)
segments_of target = map decoded (raw_segments_of target)

-- a plus sign of a query stands for a space
abbrev pub unplus : ℕ → ℕ
unplus b = if b == plus_sign then space else b

abbrev pub decoded_field_part : List ℕ → List ℕ
decoded_field_part part = decoded (map unplus part)

abbrev pub is_equals : ℕ → Bool
is_equals b = b == equals_sign

-- a name and a value, cut at the first equals sign
abbrev pub field_of : List ℕ → List ℕ × List ℕ
field_of piece = (decoded_field_part (before_first is_equals piece), decoded_field_part (after_first is_equals piece))

abbrev pub fields_of : Target → List (List ℕ × List ℕ)
fields_of target = map field_of (pieces ampersand (unwrap_or target.query []))

-- the pieces with separators between them, if there are any
abbrev pub joined_unless_none : ℕ → List (List ℕ) → Option (List ℕ)
joined_unless_none separator [] = None
joined_unless_none separator (piece ∷ pieces) = Some (join_with_byte separator (piece ∷ pieces))

abbrev pub is_ampersand : ℕ → Bool
is_ampersand b = b == ampersand

-- each piece with the separator before it
abbrev pub led : ℕ → List (List ℕ) → List ℕ
led separator [] = []
led separator (piece ∷ pieces) = (separator ∷ piece) ++ led separator pieces

-- the normal form of a path and a query: no empty segment, no empty piece in the query, and no empty query
abbrev pub normal_form : List ℕ → List ℕ → Target
normal_form path query = record {
  path = slash ∷ join_with_byte slash (pieces slash path);
  query = joined_unless_none ampersand (pieces ampersand query);
}

abbrev pub normalized : Target → Target
normalized target = normal_form target.path (unwrap_or target.query [])

-- the parts that are kept beside the text are those of the text
pub record IsKept (text : List ℕ) (segments : List (List ℕ)) (fields : List (List ℕ × List ℕ)) : Type 0 where
  pub segments_are : segments ≡ segments_of (target_of text)
  pub fields_are : fields ≡ fields_of (target_of text)

-- the text goes on behind some of a path: more of the path, and maybe a query
pub record IsPathRest (profile : Profile) (text : List ℕ) : Type 0 where
  pub path : List ℕ
  pub query : Option (List ℕ)
  pub of_path : OnlyOf (is_path_byte profile) path
  pub of_query : IfSome query (OnlyOf (is_query_byte profile))
  pub spelled : text ≡ path ++ query_text query
