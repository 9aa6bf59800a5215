-- The method that the first field of a form sets.
use Rattle.std.specs.Prelude.{◌≡◌, ◌==◌, ◌&&◌, ℕ, List, Bool, false, true, Option, None, codes, find, if◌then◌else◌, length, nat_eq, nat_le, not, option_and_then, unwrap_or}
use Rattle.std.specs.Cmp.Lexicographic.{pointwise}
use Rattle.std.specs.List.{before_first, after_first, slice_split}
use Rattle.std.specs.Option.{option_map_or}
use Rattle.std.specs.Str.{is_utf8}
use Rattle.rkt_http.specs.Method.{method_of_any_case}
use Rattle.rkt_http.specs.declared.method.Method.{Method}
use Rattle.rkt_http.specs.declared.method.Method.TheVariants.{Post}
use Rattle.rkt_media.specs.Media.{Media, is_kind}
use Rattle.rkt_request.specs.Seen.{Seen, IsContentType}
use Rattle.rkt_uri.specs.Origin.{is_ampersand, is_equals}

-- the method that a field sets: its name is _method, and its value the name of a method in any case
abbrev pub set_method : List ℕ → Option Method
set_method field =
    if pointwise nat_eq (before_first is_equals field) (codes "_method") then method_of_any_case (after_first is_equals field)
    else None

-- the first of the pieces between ampersands that is not empty
abbrev pub first_field : List ℕ → Option (List ℕ)
first_field text = find (λ piece. not (length piece == 0)) (slice_split is_ampersand text)

-- the method that the front of a form sets: it has 11 bytes at least, as many as _method=get has, it is a text, and its first
-- field sets the method
abbrev pub method_in : List ℕ → Option Method
method_in front =
    if nat_le 11 (length front) && is_utf8 front then option_and_then set_method (first_field front)
    else None

abbrev pub is_post : Method → Bool
is_post Post = true
is_post _ = false

-- the content type is that of a form, whatever its parameters
abbrev pub is_form : Option Media → Bool
is_form content_type = option_map_or (is_kind (codes "application") (codes "x-www-form-urlencoded")) content_type false

-- a POST of a form has the method that the front of its body sets, if this sets one; every other request stays as it is
abbrev pub overridden : {V : Type 0} → Option Media → List ℕ → Seen V → Seen V
overridden content_type front request =
    if is_post request.method && is_form content_type
    then record request { method = unwrap_or (method_in front) request.method }
    else request

-- the same, with the content type that its headers spell
pub record Overridden {V : Type 0} (first : Seen V) (front : List ℕ) (opened : Seen V) : Type 0 where
  pub content_type : Option Media
  pub read : IsContentType first.headers content_type
  pub request : opened ≡ overridden content_type front first
