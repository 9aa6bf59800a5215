-- A cookie's text, made by one piece after another.
use Rattle.std.proofs.Common.{◌≡◌, ℕ, List, ◌++◌, codes, append_assoc}
use Rattle.std.proofs.lemmas.Grind.{flat_map-append}
use Rattle.std.specs.List.{flat_map}
use Rattle.rkt_cookie.specs.declared.attribute.Attribute.TheVariants as attribute
use Rattle.rkt_cookie.specs.Attribute.{flag, listed, shown_secure}
use Rattle.rkt_cookie.specs.Cookie.{Parts}
use Rattle.rkt_cookie.specs.Date.{dated}
use Rattle.rkt_cookie.specs.Encoded.{appended, escaped, encoded_text}

pub encoded_by_pieces : (before : List ℕ) (c : Parts) →
    before ++ escaped c.name ++ codes "=" ++ escaped c.value
    ++ flat_map appended (flag c.http_only attribute.HttpOnly)
    ++ flat_map appended (listed attribute.SameSite c.same_site)
    ++ flat_map appended (flag (shown_secure c.secure c.same_site) attribute.Secure)
    ++ flat_map appended (listed attribute.Path c.path)
    ++ flat_map appended (listed attribute.Domain c.domain)
    ++ flat_map appended (listed attribute.MaxAge c.max_age)
    ++ flat_map appended (listed (λ moment. attribute.Expires (dated moment)) c.expires)
    ≡ before ++ encoded_text c
encoded_by_pieces before c = simp (flat_map-append, append_assoc)
