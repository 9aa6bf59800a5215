-- The attributes of a cookie (RFC 6265, section 4.1.1; SameSite is of its revision, section 4.1.2.7).
use Rattle.std.specs.Prelude.{ℕ, List, [], ◌∷◌, ◌++◌, Option, Some, None, Bool, true, false, codes}
use Rattle.std.specs.Fmt.{decimal}
use Rattle.rkt_cookie.specs.declared.same_site.SameSite.{SameSite}
use Rattle.rkt_cookie.specs.declared.same_site.SameSite.TheVariants as site
use Rattle.rkt_cookie.specs.declared.attribute.Attribute.{Attribute}
use Rattle.rkt_cookie.specs.declared.attribute.Attribute.TheVariants as attribute
use Rattle.rkt_cookie.specs.Date.{dated, moment_text}
use Rattle.rkt_cookie.specs.Cookie.{Parts}

abbrev pub site_text : SameSite → List ℕ
site_text site.Strict = codes "Strict"
site_text site.Lax = codes "Lax"
site_text site.None = codes "None"

-- the text of an attribute
abbrev pub attribute_text : Attribute → List ℕ
attribute_text attribute.HttpOnly = codes "HttpOnly"
attribute_text (attribute.SameSite site) = codes "SameSite=" ++ site_text site
attribute_text attribute.Secure = codes "Secure"
attribute_text (attribute.Path path) = codes "Path=" ++ path
attribute_text (attribute.Domain domain) = codes "Domain=" ++ domain
attribute_text (attribute.MaxAge seconds) = codes "Max-Age=" ++ decimal seconds
attribute_text (attribute.Expires moment) = codes "Expires=" ++ moment_text moment

-- the cookie with this attribute, in place of another of its kind
abbrev pub with_attribute : Parts → Attribute → Parts
with_attribute cookie attribute.HttpOnly = record cookie { http_only = Some true }
with_attribute cookie (attribute.SameSite site) = record cookie { same_site = Some site }
with_attribute cookie attribute.Secure = record cookie { secure = Some true }
with_attribute cookie (attribute.Path path) = record cookie { path = Some path }
with_attribute cookie (attribute.Domain domain) = record cookie { domain = Some domain }
with_attribute cookie (attribute.MaxAge seconds) = record cookie { max_age = Some seconds }
with_attribute cookie (attribute.Expires moment) = record cookie { expires = Some moment }

-- an attribute that has no value of its own, where it is set to true
abbrev pub flag : Option Bool → Attribute → List Attribute
flag (Some true) attribute = attribute ∷ []
flag (Some false) attribute = []
flag None attribute = []

-- an attribute with its value, where it is set
abbrev pub listed : {A : Type 0} → (A → Attribute) → Option A → List Attribute
listed attribute (Some x) = attribute x ∷ []
listed attribute None = []

-- whether a cookie is sent as secure: as it is set, and else where it goes to every site
abbrev pub shown_secure : Option Bool → Option SameSite → Option Bool
shown_secure (Some secure) same_site = Some secure
shown_secure None (Some site.None) = Some true
shown_secure None (Some site.Strict) = None
shown_secure None (Some site.Lax) = None
shown_secure None None = None

-- the attributes that are printed, in their order
abbrev pub attributes_of : Parts → List Attribute
attributes_of cookie =
    flag cookie.http_only attribute.HttpOnly
    ++ listed attribute.SameSite cookie.same_site
    ++ flag (shown_secure cookie.secure cookie.same_site) attribute.Secure
    ++ listed attribute.Path cookie.path
    ++ listed attribute.Domain cookie.domain
    ++ listed attribute.MaxAge cookie.max_age
    ++ listed (λ moment. attribute.Expires (dated moment)) cookie.expires
