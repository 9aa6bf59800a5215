-- Absolute URIs (RFC 3986, 3.1, 3.2 and 4.3), as this project takes them: a scheme, and then an authority with maybe an
-- origin behind it, or a path.
use Rattle.std.specs.Prelude.{ℕ, ◌≡◌, ◌⊎◌, List, [], ◌∷◌, ◌++◌, Bool, true, ◌==◌, ◌||◌, nat_eq, codes, drop, Option, Some, None, IfSome, unwrap_or, if◌then◌else◌}
use Rattle.std.specs.List.{list_any, before_first, starts_with}
use Rattle.std.specs.Option.{option_map, option_and_then}
use Rattle.std.specs.Char.{is_ascii_alphabetic}
use Rattle.rkt_grammar.specs.Bytes.{colon, at_sign, question_mark, slash}
use Rattle.rkt_grammar.specs.Grammar.{OnlyOf, IsFrontOf, behind_first}
use Rattle.rkt_uri.specs.Words.{Then, Many, One}
use Rattle.rkt_grammar.specs.Grammar.{is_alphanumeric}
use Rattle.rkt_uri.specs.Origin.{is_path_byte, is_query_byte, is_question, is_slash, IsOrigin}
use Rattle.rkt_uri.specs.Host.{Authority, SpellsAuthority, is_name_byte, MaybeHost, End, domain_in, port_behind, is_colon}
use Rattle.rkt_uri.specs.declared.origin_place.Profile.TheVariants.{Request}

-- a byte of a scheme, behind its first letter
abbrev pub is_scheme_byte : ℕ → Bool
is_scheme_byte b = is_alphanumeric b || list_any (λ c. c == b) (codes "+-.")

-- a byte of the user part: one of a name, or a colon
abbrev pub is_user_byte : ℕ → Bool
is_user_byte b = is_name_byte b || b == colon

-- the rest of a user part, its at sign, and then the rest
abbrev pub UserThen : (List ℕ → Type 0) → List ℕ → Type 0
UserThen Rest text = Many is_user_byte (Then at_sign Rest) text

-- nothing, an origin, or a query alone
abbrev pub MaybeOrigin : List ℕ → Type 0
MaybeOrigin text = End text ⊎ (IsOrigin Request text ⊎ Then question_mark (OnlyOf (is_query_byte Request)) text)

-- behind two slashes: maybe a user part, a host that may be empty, maybe a port, and maybe an origin
abbrev pub Located : List ℕ → Type 0
Located text = MaybeHost MaybeOrigin text ⊎ UserThen (MaybeHost MaybeOrigin) text

-- a path of its own, which does not begin with two slashes
abbrev pub IsLonePath : List ℕ → Type 0
IsLonePath text = OnlyOf (is_path_byte Request) text × ¬ IsFrontOf (codes "//") text

-- behind the colon of a scheme
abbrev pub IsHierarchy : List ℕ → Type 0
IsHierarchy text = Then slash (Then slash Located) text ⊎ IsLonePath text

-- the rest of a scheme, its colon, and what is behind it
abbrev pub SchemeRest : List ℕ → Type 0
SchemeRest text = Many is_scheme_byte (Then colon IsHierarchy) text

-- a scheme, its colon, and what is behind it
abbrev pub AbsoluteForm : List ℕ → Type 0
AbsoluteForm text = One is_ascii_alphabetic SchemeRest text

-- where an absolute URI leads: maybe a user part, and a host that may be empty
pub record Site : Type 0 where
  pub user : Option (List ℕ)
  pub host : Authority

-- what an absolute URI says: its scheme, its site, if it has one, and what is behind that, or else its path
pub record AbsoluteUri : Type 0 where
  pub scheme : List ℕ
  pub site : Option Site
  pub rest : List ℕ

-- the text of a user part, with its at sign
abbrev pub user_text : Option (List ℕ) → List ℕ
user_text None = []
user_text (Some user) = user ++ at_sign ∷ []

-- the text spells this site
pub record SpellsSite (text : List ℕ) (site : Site) : Type 0 where
  pub user : IfSome site.user (OnlyOf is_user_byte)
  pub host_text : List ℕ
  pub host : SpellsAuthority host_text site.host
  pub spelled : text ≡ user_text site.user ++ host_text

-- behind the colon of a scheme: a path, or two slashes, a site, and what is behind it
abbrev pub SpellsHierarchy : List ℕ → Option Site → List ℕ → Type 0
SpellsHierarchy text None rest = IsLonePath rest × (text ≡ rest)
SpellsHierarchy text (Some site) rest =
    (site_text : List ℕ) × SpellsSite site_text site × MaybeOrigin rest × (text ≡ slash ∷ slash ∷ (site_text ++ rest))

-- a letter, and more bytes of a scheme
abbrev pub IsScheme : List ℕ → Type 0
IsScheme [] = ⊥
IsScheme (b ∷ bs) = (is_ascii_alphabetic b ≡ true) × OnlyOf is_scheme_byte bs

-- the text spells this absolute URI
pub record SpellsAbsolute (text : List ℕ) (uri : AbsoluteUri) : Type 0 where
  pub scheme : IsScheme uri.scheme
  pub behind : List ℕ
  pub hierarchy : SpellsHierarchy behind uri.site uri.rest
  pub spelled : text ≡ uri.scheme ++ colon ∷ behind

-- the text spells some absolute URI
abbrev pub IsAbsolute : List ℕ → Type 0
IsAbsolute text = (uri : AbsoluteUri) × SpellsAbsolute text uri

-- a text spells one absolute URI at most
abbrev pub SpellsOneAbsolute : Type 0
SpellsOneAbsolute = (text : List ℕ) (a b : AbsoluteUri) → SpellsAbsolute text a → SpellsAbsolute text b → a ≡ b

-- the scheme that a text says, up to the first colon
abbrev pub scheme_of : List ℕ → List ℕ
scheme_of text = before_first is_colon text

-- what stands behind two slashes, if the text begins with them
abbrev pub behind_slashes : List ℕ → Option (List ℕ)
behind_slashes text = if starts_with nat_eq text (codes "//") then Some (drop 2 text) else None

abbrev pub is_at : ℕ → Bool
is_at b = b == at_sign

-- what stands behind the first at sign, or all where there is none
abbrev pub without_user : List ℕ → List ℕ
without_user text = unwrap_or (behind_first is_at text) text

-- the host and the port of what stands behind two slashes: they go as far as the next slash or question mark
abbrev pub host_and_port : List ℕ → List ℕ
host_and_port text = without_user (before_first is_question (before_first is_slash text))

-- the host and the port that a text says, if two slashes stand behind its scheme
abbrev pub authority_in : List ℕ → Option (List ℕ)
authority_in text = option_map host_and_port (option_and_then behind_slashes (behind_first is_colon text))

abbrev pub host_of : List ℕ → Option (List ℕ)
host_of text = option_map domain_in (authority_in text)

abbrev pub port_of : List ℕ → Option ℕ
port_of text = option_and_then port_behind (authority_in text)
