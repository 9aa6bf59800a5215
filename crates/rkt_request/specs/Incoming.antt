-- What is asked: the request that a head makes, the cookies that came with it, and what is wrong with it.
use Rattle.std.specs.Prelude.{◌≡◌, ℕ, List, [], ◌∷◌, ◌++◌, Option, None, codes, filter, fold, map, is_some, option_to_list, unwrap_or, if◌then◌else◌}
use Rattle.std.specs.List.{flat_map, slice_split}
use Rattle.std.specs.Str.{is_utf8, trim}
use Rattle.rkt_cookie.specs.Cookie.{Parts}
use Rattle.rkt_cookie.specs.Jar.{JarParts, with_cookie}
use Rattle.rkt_cookie.specs.Reading.{Reads, is_semicolon}
use Rattle.rkt_http.specs.Headers.{Field, Group, added, values_of}
use Rattle.rkt_uri.specs.Host.{SpellsHost}
use Rattle.rkt_http.specs.Method.{method_of}
use Rattle.rkt_uri.specs.Origin.{Target, Spells}
use Rattle.rkt_http.specs.declared.method.Method.{Method}
use Rattle.rkt_http.specs.declared.method.Method.TheVariants.{Get}
use Rattle.rkt_uri.specs.declared.origin_place.Profile.TheVariants.{Request as OfRequest}
use Rattle.rkt_request.specs.Seen.{Seen, ReadAs, MaybeReadAs, first_value}
use Rattle.rkt_request.specs.declared.bad.Bad.{Bad}
use Rattle.rkt_request.specs.declared.bad.Bad.TheVariants.{BadMethod, InvalidUri}
use Rattle.rkt_config.specs.declared.config.Config.{Config}
use Rattle.rkt_request.specs.declared.head.Head.{Head}

-- the origin that stands where a target is none
abbrev pub root : Target
root = record { path = codes "/"; query = None }

-- the faults of a head: of its method, and of its target
abbrev pub faults_of : Option Method → Option Target → List Bad
faults_of method target = (if is_some method then [] else BadMethod ∷ []) ++ (if is_some target then [] else InvalidUri ∷ [])

-- a name and a value as a header field
abbrev pub field_of : List ℕ × List ℕ → Field
field_of header = record { name = header.0; value = header.1 }

-- the headers whose value is UTF-8, added one by one
abbrev pub headers_of : List (List ℕ × List ℕ) → List Group
headers_of headers = fold added [] (map field_of (filter (λ header. is_utf8 header.1) headers))

-- the pieces of a Cookie header: cut at the semicolons, without the white space round them
abbrev pub cookie_pieces : List ℕ → List (List ℕ)
cookie_pieces value = map trim (slice_split is_semicolon value)

-- the cookies that the pieces say, in order; a piece that says none is passed over
abbrev pub Cookies : List (List ℕ) → List Parts → Type 0
Cookies [] cookies = cookies ≡ []
Cookies (piece ∷ pieces) cookies =
    (found : Option Parts) × ReadAs Reads piece found
    × ((others : List Parts) × Cookies pieces others × (cookies ≡ option_to_list found ++ others))

-- a jar with the cookies that the pieces say as originals, a later one in place of an earlier one of its name
pub record AddsCookies (pieces : List (List ℕ)) (old new : JarParts) : Type 0 where
  pub cookies : List Parts
  pub read : Cookies pieces cookies
  pub added_are : new ≡ record old { originals = fold with_cookie old.originals cookies }

-- a jar in which nothing has come and nothing has changed
abbrev pub empty_jar : JarParts
empty_jar = record { originals = []; log = []; floor = 0 }

-- the jar of these Cookie headers
abbrev pub IsJar : List (List ℕ) → JarParts → Type 0
IsJar values jar = AddsCookies (flat_map cookie_pieces values) empty_jar jar

-- what a head makes, where this is lent: a request, a jar and faults
pub record IsIncoming {V : Type 0} (head : Head) (config : Config) (managed : List (ℕ × V)) (request : Seen V) (jar : JarParts)
    (faults : List Bad) : Type 0 where
  -- the method of exactly that name, or else Get
  pub method : request.method ≡ unwrap_or (method_of head.method) Get
  -- the origin that the target spells, or else the root
  pub target : Option Target
  pub target_read : ReadAs (Spells OfRequest) head.target target
  pub uri : request.uri ≡ unwrap_or target root
  pub faults_are : faults ≡ faults_of (method_of head.method) target
  pub headers : request.headers ≡ headers_of head.headers
  -- what the first Host header spells, or else none
  pub host : MaybeReadAs SpellsHost (first_value request.headers (codes "Host")) request.host
  pub remote : request.remote ≡ head.remote
  pub route : request.route ≡ None
  pub config_lent : request.config ≡ config
  pub managed_lent : request.managed ≡ managed
  pub cookies : IsJar (values_of request.headers (codes "Cookie")) jar
