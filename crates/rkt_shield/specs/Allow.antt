-- Who may use a feature, and what is written for it.
use Rattle.std.specs.Prelude.{◌≡◌, ◌≢◌, ⊤, ℕ, List, [], ◌∷◌, ◌++◌, Bool, true, false, Option, Some, None, codes, if◌then◌else◌}
use Rattle.std.specs.Fmt.{decimal}
use Rattle.std.specs.List.{list_any}
use Rattle.std.specs.Option.{option_map, option_and_then}
use Rattle.rkt_uri.specs.Absolute.{AbsoluteUri, Site, SpellsAbsolute, scheme_of, host_of, port_of}
use Rattle.rkt_shield.specs.declared.allow.Allow.{Allow}
use Rattle.rkt_shield.specs.declared.allow.Allow.TheVariants.{Any, This, Origin}

abbrev pub is_any : Allow → Bool
is_any Any = true
is_any This = false
is_any (Origin uri) = false

-- a list with Any is Any alone
abbrev pub kept : List Allow → List Allow
kept allow = if list_any is_any allow then Any ∷ [] else allow

-- there is an authority, and its host is not empty
abbrev pub SiteHasHost : Option Site → Type 0
SiteHasHost None = ⊥
SiteHasHost (Some site) = site.host.domain ≢ []

-- the absolute URI that the text spells has a host
abbrev pub HasHost : List ℕ → Type 0
HasHost text = (uri : AbsoluteUri) → SpellsAbsolute text uri → SiteHasHost uri.site

-- an origin has a host
abbrev pub NamesHost : Allow → Type 0
NamesHost Any = ⊤
NamesHost This = ⊤
NamesHost (Origin uri) = HasHost uri

-- an origin between quotation marks, by its scheme, its host and its port
abbrev pub quoted_origin : List ℕ → Option (List ℕ) → Option ℕ → List ℕ
quoted_origin scheme None port = codes "\"" ++ scheme ++ codes "\""
quoted_origin scheme (Some host) None = codes "\"" ++ scheme ++ codes "://" ++ host ++ codes "\""
quoted_origin scheme (Some host) (Some port) =
    codes "\"" ++ scheme ++ codes "://" ++ host ++ codes ":" ++ decimal port ++ codes "\""

-- the origin that the text of an absolute URI says
abbrev pub origin_text : List ℕ → List ℕ
origin_text text = quoted_origin (scheme_of text) (host_of text) (port_of text)

abbrev pub allow_text : Allow → List ℕ
allow_text Any = codes "*"
allow_text This = codes "self"
allow_text (Origin uri) = origin_text uri

-- what is written for an origin is the scheme, the host and the port of the absolute URI that its text spells
abbrev pub PrintsWhatItSpells : Type 0
PrintsWhatItSpells =
    (text : List ℕ) (uri : AbsoluteUri)
    → SpellsAbsolute text uri
    → origin_text text ≡ quoted_origin uri.scheme (option_map (λ (site : Site). site.host.domain) uri.site)
    (option_and_then (λ (site : Site). site.host.port) uri.site)
