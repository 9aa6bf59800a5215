-- Attributes that are set one after another are, of each kind, the last one.
use Rattle.std.proofs.Common.{◌≡◌, ℕ, List, [], ◌∷◌, fold, Option, Some, None, refl, ◌∙◌}
use Rattle.std.specs.List.{cons_option, filter_map, last_or}
use Rattle.rkt_cookie.specs.declared.attribute.Attribute.{Attribute}
use Rattle.rkt_cookie.specs.declared.attribute.Attribute.TheVariants as attribute
use Rattle.rkt_cookie.specs.Attribute.{with_attribute}
use Rattle.rkt_cookie.specs.Cookie.{Parts, bare}
use Rattle.rkt_cookie.specs.Reading.{attribute_of, domain_in, expires_in, http_only_in, max_age_in, path_in, same_site_in, secure_in, with_any, with_last_said, with_piece}

-- the cookie with what is said last of each kind, where anything is
abbrev over : Parts → List Attribute → Parts
over cookie attributes =
    record cookie {
      http_only = last_or cookie.http_only (filter_map http_only_in attributes);
      same_site = last_or cookie.same_site (filter_map same_site_in attributes);
      secure = last_or cookie.secure (filter_map secure_in attributes);
      path = last_or cookie.path (filter_map path_in attributes);
      domain = last_or cookie.domain (filter_map domain_in attributes);
      max_age = last_or cookie.max_age (filter_map max_age_in attributes);
      expires = last_or cookie.expires (filter_map expires_in attributes);
    }

set_first : (cookie : Parts) (a : Attribute) (rest : List Attribute) → over (with_attribute cookie a) rest ≡ over cookie (a ∷ rest)
set_first cookie attribute.HttpOnly rest = refl
set_first cookie (attribute.SameSite site) rest = refl
set_first cookie attribute.Secure rest = refl
set_first cookie (attribute.Path path) rest = refl
set_first cookie (attribute.Domain domain) rest = refl
set_first cookie (attribute.MaxAge seconds) rest = refl
set_first cookie (attribute.Expires moment) rest = refl

any_first : (cookie : Parts) (said : Option Attribute) (rest : List Attribute) → over (with_any cookie said) rest ≡ over cookie (cons_option said rest)
any_first cookie (Some a) rest = set_first cookie a rest
any_first cookie None rest = refl

pieces_over : (cookie : Parts) (pieces : List (List ℕ)) → fold with_piece cookie pieces ≡ over cookie (filter_map attribute_of pieces)
pieces_over cookie [] = refl
pieces_over cookie (piece ∷ pieces) = pieces_over (with_piece cookie piece) pieces ∙ any_first cookie (attribute_of piece) (filter_map attribute_of pieces)

-- a cookie with no attribute, and then piece by piece
pub last_said_is : (name value : List ℕ) (pieces : List (List ℕ)) → fold with_piece (bare name value) pieces ≡ with_last_said name value (filter_map attribute_of pieces)
last_said_is name value pieces = pieces_over (bare name value) pieces
