-- What a cookie says: its name and value, and those of its attributes that are set (RFC 6265, sections 4.1.2 and 5.2).
use Rattle.std.specs.Prelude.{ℕ, ◌-◌, List, [], Bool, Option, Some, None, max}
use Rattle.rkt_cookie.specs.declared.same_site.SameSite.{SameSite}

pub record Parts : Type 0 where
  pub name : List ℕ
  pub value : List ℕ
  pub http_only : Option Bool
  pub same_site : Option SameSite
  pub secure : Option Bool
  pub path : Option (List ℕ)
  pub domain : Option (List ℕ)
  -- in seconds
  pub max_age : Option ℕ
  -- a moment, in seconds since 1970
  pub expires : Option ℕ

-- a cookie with no attribute
abbrev pub bare : List ℕ → List ℕ → Parts
bare name value =
    record {
      name = name;
      value = value;
      http_only = None;
      same_site = None;
      secure = None;
      path = None;
      domain = None;
      max_age = None;
      expires = None;
    }

-- the seconds of a year of 365 days
abbrev pub year : ℕ
year = 31536000

-- the cookie that takes this one away at the moment: empty, of no age, and expired a year before
abbrev pub removal : Parts → ℕ → Parts
removal cookie moment =
    record cookie { value = []; max_age = Some 0; expires = Some (max moment year - year) }
