-- Media types (RFC 9110, 8.3.1).
use Rattle.std.specs.Prelude.{ℕ, ◌+◌, List, [], ◌∷◌, ◌++◌, Bool, ◌&&◌, Option, Some, None, codes, flat_map, nat_eq, if◌then◌else◌}
use Rattle.std.specs.Cmp.Lexicographic.{pointwise}
use Rattle.std.specs.Str.{str_eq_ignore_ascii_case}
use Rattle.rkt_media.specs.declared.known.Known.{Known}
use Rattle.rkt_media.specs.declared.known.Known.TheVariants.{Any, Plain, Text, Binary, JSON, JavaScript, MsgPack, HTML, CSS, XML, Form}

-- a name, and its value as it is spelled: a token, or a quoted string with its quotation marks
abbrev pub Parameter : Type 0
Parameter = List ℕ × List ℕ

-- a media type
pub record Media : Type 0 where
  pub top : List ℕ
  pub sub : List ℕ
  pub parameters : List Parameter

-- type and subtype, where none are those of any
abbrev pub names_of : Option (List ℕ × List ℕ) → List ℕ × List ℕ
names_of None = (codes "*", codes "*")
names_of (Some names) = names

-- the media type of these names and parameters
abbrev pub media_of : Option (List ℕ × List ℕ) → List Parameter → Media
media_of names parameters = record { top = (names_of names).0; sub = (names_of names).1; parameters = parameters }

-- the text of a parameter behind a type
abbrev pub parameter_text : Parameter → List ℕ
parameter_text p = codes "; " ++ p.0 ++ codes "=" ++ p.1

-- the text of a media type
abbrev pub media_text : Media → List ℕ
media_text media = media.top ++ codes "/" ++ media.sub ++ flat_map parameter_text media.parameters

-- the media type has this type and subtype, in any case
abbrev pub is_kind : List ℕ → List ℕ → Media → Bool
is_kind top sub media = str_eq_ignore_ascii_case media.top top && str_eq_ignore_ascii_case media.sub sub

-- the two parameters have one name and one value, in any case
abbrev pub same_parameter : Parameter → Parameter → Bool
same_parameter p q = str_eq_ignore_ascii_case p.0 q.0 && str_eq_ignore_ascii_case p.1 q.1

-- the two media types are the same in any case, with the same parameters in the same order
abbrev pub same_media : Media → Media → Bool
same_media m n = is_kind n.top n.sub m && pointwise same_parameter m.parameters n.parameters

-- 1 unless the part is a star
abbrev pub part_specificity : List ℕ → ℕ
part_specificity part = if pointwise nat_eq part (codes "*") then 0 else 1

-- how many of type and subtype are no star
abbrev pub specificity_of : Media → ℕ
specificity_of media = part_specificity media.top + part_specificity media.sub

-- a media type without parameters
abbrev pub bare : List ℕ → List ℕ → Media
bare top sub = record { top = top; sub = sub; parameters = [] }

-- a text in UTF-8
abbrev pub utf8_text : List ℕ → Media
utf8_text sub = record { top = codes "text"; sub = sub; parameters = (codes "charset", codes "utf-8") ∷ [] }

-- the media types with a name of their own
abbrev pub known_media : Known → Media
known_media Any = bare (codes "*") (codes "*")
known_media Plain = utf8_text (codes "plain")
known_media Text = utf8_text (codes "plain")
known_media Binary = bare (codes "application") (codes "octet-stream")
known_media JSON = bare (codes "application") (codes "json")
known_media JavaScript = bare (codes "text") (codes "javascript")
known_media MsgPack = bare (codes "application") (codes "msgpack")
known_media HTML = utf8_text (codes "html")
known_media CSS = utf8_text (codes "css")
known_media XML = utf8_text (codes "xml")
known_media Form = bare (codes "application") (codes "x-www-form-urlencoded")

-- and their texts
abbrev pub known_text : Known → List ℕ
known_text Any = codes "*/*"
known_text Plain = codes "text/plain; charset=utf-8"
known_text Text = codes "text/plain; charset=utf-8"
known_text Binary = codes "application/octet-stream"
known_text JSON = codes "application/json"
known_text JavaScript = codes "text/javascript"
known_text MsgPack = codes "application/msgpack"
known_text HTML = codes "text/html; charset=utf-8"
known_text CSS = codes "text/css; charset=utf-8"
known_text XML = codes "text/xml; charset=utf-8"
known_text Form = codes "application/x-www-form-urlencoded"
