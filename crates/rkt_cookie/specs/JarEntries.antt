-- How a jar keeps its originals: by name.
use Rattle.std.specs.Prelude.{◌≡◌, List, map, string_bytes, All, String}
use Rattle.std.specs.Global.{Global}
use Rattle.rkt_cookie.specs.Cookie.{Parts}

-- the cookies of a map's entries
abbrev pub cookies_in : List (String Global × Parts) → List Parts
cookies_in entries = map (λ entry. entry.1) entries

-- each is kept under its own name
abbrev pub IsByName : List (String Global × Parts) → Type 0
IsByName entries = All (λ entry. string_bytes entry.0 ≡ entry.1.name) entries
