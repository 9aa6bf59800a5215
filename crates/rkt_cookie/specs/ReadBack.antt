-- Which cookies are read again from their text, and as what.
use Rattle.std.specs.Prelude.{ℕ, ◌≡◌, ◌≢◌, List, [], Bool, true, false, Option, Some, None, All, option_map}
use Rattle.std.specs.Option.{ForSome}
use Rattle.std.specs.Str.{trim}
use Rattle.rkt_grammar.specs.Bytes.{semicolon}
use Rattle.rkt_cookie.specs.Attribute.{shown_secure}
use Rattle.rkt_cookie.specs.Cookie.{Parts}
use Rattle.rkt_cookie.specs.Date.{dated}

-- a path or a domain that stays as it is between semicolons: with none of its own, and no white space at its ends
abbrev pub IsPlain : List ℕ → Type 0
IsPlain value = All (λ b. b ≢ semicolon) value × (trim value ≡ value)

-- a cookie that is read again from its text
pub record IsPrintable (cookie : Parts) : Type 0 where
  pub named : cookie.name ≢ []
  pub path : ForSome cookie.path IsPlain
  pub domain : ForSome cookie.domain (λ domain. IsPlain domain × (domain ≢ []))

-- a flag, which a text can only set
abbrev pub flag_back : Option Bool → Option Bool
flag_back (Some true) = Some true
flag_back (Some false) = None
flag_back None = None

-- what it is read as: itself, but for flags that are set to false, Secure where SameSite asks for it, and dates
-- behind the year 9999
abbrev pub read_back : Parts → Parts
read_back cookie =
    record cookie {
      http_only = flag_back cookie.http_only;
      secure = flag_back (shown_secure cookie.secure cookie.same_site);
      expires = option_map dated cookie.expires;
    }
