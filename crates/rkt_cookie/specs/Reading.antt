-- How a cookie's text is read (RFC 6265, section 5.2), with name and value unescaped.
use Rattle.std.specs.Prelude.{ℕ, ◌≡◌, ◌≢◌, ◌⊎◌, List, [], Bool, ◌==◌, length, codes, Option, Some, None, option_map, true, IsUtf8, if◌then◌else◌}
use Rattle.std.specs.List.{list_any, before_first, after_first, filter_map, last_or, slice_split}
use Rattle.std.specs.Str.{trim, str_eq_ignore_ascii_case}
use Rattle.std.specs.Str.Parse.{digits_value}
use Rattle.httpdate.specs.Date.{parse_secs}
use Rattle.percent_encoding.specs.Percent.{percent_decode}
use Rattle.rkt_grammar.specs.Bytes.{semicolon, equals_sign}
use Rattle.rkt_grammar.specs.Numbers.{is_number}
use Rattle.rkt_cookie.specs.declared.same_site.SameSite.{SameSite}
use Rattle.rkt_cookie.specs.declared.same_site.SameSite.TheVariants as site
use Rattle.rkt_cookie.specs.declared.attribute.Attribute.{Attribute}
use Rattle.rkt_cookie.specs.declared.attribute.Attribute.TheVariants as attribute
use Rattle.rkt_cookie.specs.Attribute.{with_attribute}
use Rattle.rkt_cookie.specs.Cookie.{Parts}

abbrev pub is_semicolon : ℕ → Bool
is_semicolon b = b == semicolon

abbrev pub is_equals : ℕ → Bool
is_equals b = b == equals_sign

-- what stands before the first semicolon
abbrev pub first_piece : List ℕ → List ℕ
first_piece text = before_first is_semicolon text

-- the pieces behind the first semicolon, cut at each other one
abbrev pub later_pieces : List ℕ → List (List ℕ)
later_pieces text = slice_split is_semicolon (after_first is_semicolon text)

-- what stands before a piece's first equals sign, without the white space round it
abbrev pub name_in : List ℕ → List ℕ
name_in piece = trim (before_first is_equals piece)

-- what stands behind it, likewise, where there is one
abbrev pub value_in : List ℕ → Option (List ℕ)
value_in piece = if list_any is_equals piece then Some (trim (after_first is_equals piece)) else None

-- a first piece that names a cookie: it has a value and a name, and both are texts once they are unescaped
pub record IsPair (piece name value : List ℕ) : Type 0 where
  pub named : name_in piece ≢ []
  pub name_read : name ≡ percent_decode (name_in piece)
  pub value_read : option_map percent_decode (value_in piece) ≡ Some value
  pub name_utf8 : IsUtf8 name
  pub value_utf8 : IsUtf8 value

-- a first piece that names none
abbrev pub IsNoPair : List ℕ → Type 0
IsNoPair piece =
    (value_in piece ≡ None)
    ⊎ ((name_in piece ≡ [])
    ⊎ ((¬ IsUtf8 (percent_decode (name_in piece)))
    ⊎ ((value : List ℕ) × (value_in piece ≡ Some value) × (¬ IsUtf8 (percent_decode value)))))

abbrev pub site_of : List ℕ → Option SameSite
site_of value =
    if str_eq_ignore_ascii_case value (codes "Strict") then Some site.Strict
    else (if str_eq_ignore_ascii_case value (codes "Lax") then Some site.Lax
    else (if str_eq_ignore_ascii_case value (codes "None") then Some site.None else None))

abbrev pub seconds_of : List ℕ → Option ℕ
seconds_of digits = if is_number 64 digits then Some (digits_value 10 digits) else None

-- a domain that is not empty
abbrev pub domain_of : List ℕ → Option (List ℕ)
domain_of value = if length value == 0 then None else Some value

-- an attribute that has a value, by its name in any case
abbrev pub valued : List ℕ → List ℕ → Option Attribute
valued name value =
    if str_eq_ignore_ascii_case name (codes "SameSite") then option_map attribute.SameSite (site_of value)
    else (if str_eq_ignore_ascii_case name (codes "Path") then Some (attribute.Path value)
    else (if str_eq_ignore_ascii_case name (codes "Domain") then option_map attribute.Domain (domain_of value)
    else (if str_eq_ignore_ascii_case name (codes "Max-Age") then option_map attribute.MaxAge (seconds_of value)
    else (if str_eq_ignore_ascii_case name (codes "Expires") then option_map attribute.Expires (parse_secs value)
    else None))))

abbrev pub valued_where : List ℕ → Option (List ℕ) → Option Attribute
valued_where name (Some value) = valued name value
valued_where name None = None

-- an attribute by its name in any case, and its value, where it has one
abbrev pub attribute_by : List ℕ → Option (List ℕ) → Option Attribute
attribute_by name value =
    if str_eq_ignore_ascii_case name (codes "HttpOnly") then Some attribute.HttpOnly
    else (if str_eq_ignore_ascii_case name (codes "Secure") then Some attribute.Secure
    else valued_where name value)

-- the attribute that a piece says, if it says one
abbrev pub attribute_of : List ℕ → Option Attribute
attribute_of piece = attribute_by (name_in piece) (value_in piece)

abbrev pub with_any : Parts → Option Attribute → Parts
with_any cookie (Some attribute) = with_attribute cookie attribute
with_any cookie None = cookie

-- the cookie with what the piece says
abbrev pub with_piece : Parts → List ℕ → Parts
with_piece cookie piece = with_any cookie (attribute_of piece)

-- what an attribute says, where it is of this kind
abbrev pub http_only_in : Attribute → Option Bool
http_only_in attribute.HttpOnly = Some true
http_only_in _ = None

abbrev pub same_site_in : Attribute → Option SameSite
same_site_in (attribute.SameSite site) = Some site
same_site_in _ = None

abbrev pub secure_in : Attribute → Option Bool
secure_in attribute.Secure = Some true
secure_in _ = None

abbrev pub path_in : Attribute → Option (List ℕ)
path_in (attribute.Path path) = Some path
path_in _ = None

abbrev pub domain_in : Attribute → Option (List ℕ)
domain_in (attribute.Domain domain) = Some domain
domain_in _ = None

abbrev pub max_age_in : Attribute → Option ℕ
max_age_in (attribute.MaxAge seconds) = Some seconds
max_age_in _ = None

abbrev pub expires_in : Attribute → Option ℕ
expires_in (attribute.Expires moment) = Some moment
expires_in _ = None

-- the last that is said of a kind, if any is
abbrev pub last_said : {A : Type 0} → (Attribute → Option A) → List Attribute → Option A
last_said kind attributes = last_or None (filter_map kind attributes)

-- the cookie of this name and value that has of each kind what is said last
abbrev pub with_last_said : List ℕ → List ℕ → List Attribute → Parts
with_last_said name value attributes =
    record {
      name = name;
      value = value;
      http_only = last_said http_only_in attributes;
      same_site = last_said same_site_in attributes;
      secure = last_said secure_in attributes;
      path = last_said path_in attributes;
      domain = last_said domain_in attributes;
      max_age = last_said max_age_in attributes;
      expires = last_said expires_in attributes;
    }

-- a text that is read as this cookie: a name and a value, and then attributes, of each kind the last one. A piece that
-- says none is passed over
pub record Reads (text : List ℕ) (cookie : Parts) : Type 0 where
  pub name : List ℕ
  pub value : List ℕ
  pub pair : IsPair (first_piece text) name value
  pub attributes : cookie ≡ with_last_said name value (filter_map attribute_of (later_pieces text))
