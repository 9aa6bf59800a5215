-- What contracts see of a response.
use Rattle.std.specs.Option.{option_or}
use Rattle.std.specs.Prelude.{◌≡◌, ℕ, ◌⊎◌, List, [], ◌∷◌, Option, None, if◌then◌else◌}
use Rattle.rkt_cookie.specs.Cookie.{Parts}
use Rattle.rkt_cookie.specs.Reading.{Reads, IsNoPair, first_piece}
use Rattle.rkt_http.specs.Headers.{Group, appended, overwritten}
use Rattle.rkt_message.specs.Body.{BodyOf, body_of, is_some_content}
use Rattle.rkt_message.specs.declared.content.Content.TheVariants as content

pub record ResponseOf (S : Type 0) : Type 0 where
  -- its code, where it is set
  pub status : Option ℕ
  pub headers : List Group
  pub body : BodyOf S

-- with nothing set
abbrev pub empty_response : {S : Type 0} → ResponseOf S
empty_response = record { status = None; headers = []; body = body_of content.None }

abbrev pub with_headers : {S : Type 0} → ResponseOf S → List Group → ResponseOf S
with_headers response headers = record response { headers = headers }

abbrev pub with_body : {S : Type 0} → ResponseOf S → BodyOf S → ResponseOf S
with_body response body = record response { body = body }

-- a response with what is set in another
abbrev pub merged : {S : Type 0} → ResponseOf S → ResponseOf S → ResponseOf S
merged response other = record {
  status = option_or other.status response.status;
  headers = overwritten response.headers other.headers;
  body = if is_some_content other.body.content then other.body else response.body;
}

-- a response with what is set in another, where it is not set in itself
abbrev pub joined : {S : Type 0} → ResponseOf S → ResponseOf S → ResponseOf S
joined response other = record {
  status = option_or response.status other.status;
  headers = appended response.headers other.headers;
  body = if is_some_content response.body.content then response.body else other.body;
}

-- the cookies that texts are read as, each that is read as one, in order
abbrev pub ReadsCookies : List (List ℕ) → List Parts → Type 0
ReadsCookies [] cookies = cookies ≡ []
ReadsCookies (text ∷ texts) cookies =
    ((cookie : Parts) × (rest : List Parts) × (cookies ≡ cookie ∷ rest) × Reads text cookie × ReadsCookies texts rest)
    ⊎ (IsNoPair (first_piece text) × ReadsCookies texts cookies)
