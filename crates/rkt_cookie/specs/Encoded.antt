-- The text that a cookie is sent as (RFC 6265, section 4.1.1), with name and value escaped.
use Rattle.std.specs.Prelude.{ℕ, List, [], ◌∷◌, ◌++◌, Bool, ◌||◌, ◌==◌, nat_lt, codes, if◌then◌else◌}
use Rattle.std.specs.List.{list_any, flat_map}
use Rattle.percent_encoding.specs.Percent.{percent_encode_byte}
use Rattle.rkt_cookie.specs.declared.attribute.Attribute.{Attribute}
use Rattle.rkt_cookie.specs.Attribute.{attribute_text, attributes_of}
use Rattle.rkt_cookie.specs.Cookie.{Parts}

-- the graphic bytes of ASCII, from `!` to `~`
abbrev pub first_graphic : ℕ
first_graphic = 33

abbrev pub last_graphic : ℕ
last_graphic = 126

-- a byte that name and value have escaped: any but the graphic ones of ASCII, and some of these
abbrev pub is_escaped : ℕ → Bool
is_escaped b = nat_lt b first_graphic || nat_lt last_graphic b || list_any (λ c. c == b) (codes "\"<>#?{}/:;=@[\\]^|%(),`")

-- a name or a value, each such byte as `%` and two hexadecimal digits
abbrev pub escaped : List ℕ → List ℕ
escaped part = flat_map (λ b. if is_escaped b then percent_encode_byte b else b ∷ []) part

-- an attribute behind what comes before it
abbrev pub appended : Attribute → List ℕ
appended attribute = codes "; " ++ attribute_text attribute

-- name and value, and then each attribute that is printed
abbrev pub encoded_text : Parts → List ℕ
encoded_text cookie =
    escaped cookie.name ++ codes "=" ++ escaped cookie.value ++ flat_map appended (attributes_of cookie)
