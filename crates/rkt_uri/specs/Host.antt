-- Hosts with ports (RFC 3986, 3.2.2 and 3.2.3), as this project takes them: a name, or an address between brackets.
use Rattle.std.specs.Prelude.{ℕ, ◌≡◌, ◌≢◌, ◌+◌, ◌-◌, ◌*◌, ◌⊎◌, List, [], ◌∷◌, ◌++◌, Bool, true, ◌==◌, ◌||◌, ◌&&◌, nat_le, codes, Option, Some, None, if◌then◌else◌}
use Rattle.std.specs.List.{list_any, before_first, after_first}
use Rattle.std.specs.Char.{is_ascii_digit, is_ascii_hexdigit}
use Rattle.rkt_grammar.specs.Bytes.{digit_zero, colon, dot, closing_bracket, opening_bracket}
use Rattle.rkt_grammar.specs.Grammar.{OnlyOf, has_byte, is_alphanumeric}
use Rattle.rkt_uri.specs.Words.{Then, Many, Many1}

-- a byte of a host's name
abbrev pub is_name_byte : ℕ → Bool
is_name_byte b = is_alphanumeric b || list_any (λ c. c == b) (codes "-._~%!$&'()*+,;=")

-- a byte of an address between brackets: a hexadecimal digit, a colon or a dot
abbrev pub is_address_byte : ℕ → Bool
is_address_byte b = is_ascii_hexdigit b || b == colon || b == dot

-- a number with one more digit
abbrev pub with_digit : ℕ → ℕ → ℕ
with_digit n digit = 10 * n + (digit - digit_zero)

-- the digit goes on with the number, and it stays a port
abbrev pub is_port_digit : ℕ → ℕ → Bool
is_port_digit n b = is_ascii_digit b && nat_le (with_digit n b) 65535

-- more digits of a port that so far is n, and then the rest
abbrev pub MoreDigits : ℕ → (List ℕ → Type 0) → List ℕ → Type 0
MoreDigits n Rest [] = Rest []
MoreDigits n Rest (b ∷ bs) = Rest (b ∷ bs) ⊎ ((is_port_digit n b ≡ true) × MoreDigits (with_digit n b) Rest bs)

-- the digits of a port, one at least, and then the rest
abbrev pub Digits : (List ℕ → Type 0) → List ℕ → Type 0
Digits Rest [] = ⊥
Digits Rest (b ∷ bs) = (is_port_digit 0 b ≡ true) × MoreDigits (with_digit 0 b) Rest bs

-- maybe a port behind a colon, and then the rest
abbrev pub MaybePort : (List ℕ → Type 0) → List ℕ → Type 0
MaybePort Rest text = Rest text ⊎ Then colon (Digits Rest) text

-- behind the opening bracket of an address
abbrev pub Address : (List ℕ → Type 0) → List ℕ → Type 0
Address Rest text = Many is_address_byte (Then closing_bracket Rest) text

abbrev pub End : List ℕ → Type 0
End text = text ≡ []

-- a host that may be empty, and maybe a port, and then the rest
abbrev pub MaybeHost : (List ℕ → Type 0) → List ℕ → Type 0
MaybeHost Rest text = Many is_name_byte (MaybePort Rest) text ⊎ Then opening_bracket (Address (MaybePort Rest)) text

-- a host that is not empty, and maybe a port
abbrev pub HostForm : List ℕ → Type 0
HostForm text = Many1 is_name_byte (MaybePort End) text ⊎ Then opening_bracket (Address (MaybePort End)) text

abbrev pub is_colon : ℕ → Bool
is_colon b = b == colon

abbrev pub is_close : ℕ → Bool
is_close b = b == closing_bracket

-- the number that these digits go on with, if it stays a port
abbrev pub port_on : ℕ → List ℕ → Option ℕ
port_on n [] = Some n
port_on n (b ∷ bs) = if is_port_digit n b then port_on (with_digit n b) bs else None

-- the port behind the first colon of a text, if there is one
abbrev pub port_in : List ℕ → Option ℕ
port_in text = if has_byte is_colon text then port_on 0 (after_first is_colon text) else None

-- a host's name or address, and its port
pub record Authority : Type 0 where
  pub domain : List ℕ
  pub port : Option ℕ

-- an address between its brackets
abbrev pub IsAddress : List ℕ → Type 0
IsAddress domain =
    (inside : List ℕ) × OnlyOf is_address_byte inside × (domain ≡ opening_bracket ∷ (inside ++ closing_bracket ∷ []))

-- a name, which may be empty, or an address
abbrev pub IsDomain : List ℕ → Type 0
IsDomain domain = OnlyOf is_name_byte domain ⊎ IsAddress domain

-- the text of a port: a colon and one digit at least of its number, or nothing where there is none
abbrev pub SpellsPort : List ℕ → Option ℕ → Type 0
SpellsPort text None = text ≡ []
SpellsPort text (Some port) =
    (digit : ℕ) × (digits : List ℕ) × (port_on 0 (digit ∷ digits) ≡ Some port) × (text ≡ colon ∷ digit ∷ digits)

-- the text spells this domain, and this port behind it
pub record SpellsAuthority (text : List ℕ) (host : Authority) : Type 0 where
  pub domain : IsDomain host.domain
  pub port_text : List ℕ
  pub port : SpellsPort port_text host.port
  pub spelled : text ≡ host.domain ++ port_text

-- the text spells this host, which is not empty
pub record SpellsHost (text : List ℕ) (host : Authority) : Type 0 where
  pub some : host.domain ≢ []
  pub authority : SpellsAuthority text host

-- the text spells some host
abbrev pub IsHost : List ℕ → Type 0
IsHost text = (host : Authority) × SpellsHost text host

-- a text spells one host at most
abbrev pub SpellsOneHost : Type 0
SpellsOneHost = (text : List ℕ) (a b : Authority) → SpellsHost text a → SpellsHost text b → a ≡ b

-- an address goes as far as its closing bracket, and a name as far as the first colon
abbrev pub domain_in : List ℕ → List ℕ
domain_in text =
    if has_byte is_close text then before_first is_close text ++ closing_bracket ∷ [] else before_first is_colon text

-- the port is behind the address or the name
abbrev pub port_behind : List ℕ → Option ℕ
port_behind text = if has_byte is_close text then port_in (after_first is_close text) else port_in text

-- what a text says
abbrev pub authority_of : List ℕ → Authority
authority_of text = record { domain = domain_in text; port = port_behind text }
