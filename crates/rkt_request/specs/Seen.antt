-- A request as contracts see it.
use Rattle.std.specs.Prelude.{◌≡◌, ℕ, List, [], ◌∷◌, Option, Some, None, IsSomeAnd, MatchBool, drop, option_and_then, option_map, codes}
use Rattle.std.specs.Option.{option_map_or, option_or}
use Rattle.std.specs.Net.Grammar.{IsIpText}
use Rattle.std.specs.Net.Socket.{socket_ip}
use Rattle.std.specs.declared.net.ip_addr.IpAddr.{IpAddr}
use Rattle.std.specs.declared.net.socket_addr.SocketAddr.{SocketAddr}
use Rattle.rkt_media.specs.Accept.{Prefers, Weighed}
use Rattle.rkt_media.specs.AcceptText.{SpellsAccept}
pub use Rattle.rkt_http.specs.Headers.{first_value}
pub use Rattle.rkt_http.specs.Reading.{ReadAs, MaybeReadAs}
use Rattle.rkt_http.specs.Headers.{Group}
use Rattle.rkt_uri.specs.Host.{Authority}
use Rattle.rkt_media.specs.Media.{Media, known_media}
use Rattle.rkt_media.specs.MediaText.{SpellsMedia}
use Rattle.rkt_http.specs.Method.{carries_payload}
use Rattle.rkt_uri.specs.Origin.{Target, segments_of}
use Rattle.rkt_media.specs.declared.known.Known.TheVariants.{Any}
use Rattle.rkt_http.specs.declared.method.Method.{Method}
use Rattle.rkt_config.specs.declared.config.Config.{Config}
use Rattle.rkt_request.specs.declared.head.Mounted.{Mounted}

-- V is the type of the managed values
pub record Seen (V : Type 0) : Type 0 where
  -- what the server is set to, and what it manages
  pub config : Config
  pub managed : List (ℕ × V)
  pub method : Method
  pub uri : Target
  pub host : Option Authority
  pub remote : Option SocketAddr
  pub headers : List Group
  -- the route that the request is tried on
  pub route : Option Mounted

-- how many segments the base of a route has
abbrev pub base_segments : Option Mounted → ℕ
base_segments route = option_map_or (λ mounted. mounted.base_segments) route 0

-- the decoded segments behind those of the route's base
abbrev pub routed : {V : Type 0} → Seen V → List (List ℕ)
routed seen = drop (base_segments seen.route) (segments_of seen.uri)

-- the first value of the header from which a client's address is read
abbrev pub real_ip_text : {V : Type 0} → Seen V → Option (List ℕ)
real_ip_text seen = option_and_then (first_value seen.headers) seen.config.ip_header

-- the address that this header says, if it says one
abbrev pub IsRealIp : {V : Type 0} → Seen V → Option IpAddr → Type 0
IsRealIp seen found = MaybeReadAs IsIpText (real_ip_text seen) found

-- the client's address: that one, or else that of who sent the request
abbrev pub IsClientIp : {V : Type 0} → Seen V → Option IpAddr → Type 0
IsClientIp seen found =
    (real : Option IpAddr) × IsRealIp seen real × (found ≡ option_or real (option_map socket_ip seen.remote))

-- the content type that the first Content-Type header spells, if there is one that spells any
abbrev pub IsContentType : List Group → Option Media → Type 0
IsContentType headers found = MaybeReadAs SpellsMedia (first_value headers (codes "Content-Type")) found

-- the media types that the first Accept header spells, with their weights, if there is one that spells any
abbrev pub IsAccept : List Group → Option (List Weighed) → Type 0
IsAccept headers found = MaybeReadAs SpellsAccept (first_value headers (codes "Accept")) found

-- the media type that is preferred: of no entries that of anything
abbrev pub IsPreferredOf : List Weighed → Media → Type 0
IsPreferredOf [] media = media ≡ known_media Any
IsPreferredOf (entry ∷ entries) media = Prefers (entry ∷ entries) media

-- the preferred media type of what is accepted, and that of anything where nothing is said of it
abbrev pub IsAccepted : Option (List Weighed) → Media → Type 0
IsAccepted None media = media ≡ known_media Any
IsAccepted (Some entries) media = IsPreferredOf entries media

-- the format of a request: with a payload its content type, and else the media type that is preferred
abbrev pub IsFormat : {V : Type 0} → Seen V → Option Media → Type 0
IsFormat seen found =
    MatchBool (carries_payload seen.method) (IsContentType seen.headers found)
    ((accept : Option (List Weighed)) × IsAccept seen.headers accept × IsSomeAnd found (IsAccepted accept))

-- a request has one format at most
abbrev pub HasOneFormat : {V : Type 0} → Seen V → Type 0
HasOneFormat seen = (a b : Option Media) → IsFormat seen a → IsFormat seen b → a ≡ b
