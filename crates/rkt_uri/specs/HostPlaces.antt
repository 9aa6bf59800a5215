-- Where a reader stands in a host, and what may follow.
use Rattle.std.specs.Prelude.{ℕ, List, Bool, true, false, ◌==◌, if◌then◌else◌, ◌⊎◌, Option, Some, None}
use Rattle.rkt_grammar.specs.Bytes.{opening_bracket, colon, closing_bracket}
use Rattle.rkt_uri.specs.Words.{Then, Many, Many1}
use Rattle.rkt_uri.specs.Host.{is_name_byte, is_address_byte, is_port_digit, with_digit, MoreDigits, Digits, MaybePort, Address, End, MaybeHost}
use Rattle.rkt_uri.specs.declared.host_place.HostPlace.{HostPlace}
use Rattle.rkt_uri.specs.declared.host_place.HostPlace.TheVariants.{Start, MaybeEmpty, Name, Address as InAddress, Closed, Colon, Port}

-- the port with one more digit, if it stays one
abbrev pub port_after : ℕ → ℕ → Option ℕ
port_after n b = if is_port_digit n b then Some (with_digit n b) else None

abbrev pub in_port : ℕ → ℕ → Option HostPlace
in_port n b = if is_port_digit n b then Some (Port (with_digit n b)) else None

abbrev pub place_after : HostPlace → ℕ → Option HostPlace
place_after Start b = if b == opening_bracket then Some InAddress else (if is_name_byte b then Some Name else None)
place_after MaybeEmpty b =
    if b == opening_bracket
    then Some InAddress
    else (if b == colon then Some Colon else (if is_name_byte b then Some Name else None))
place_after Name b = if b == colon then Some Colon else (if is_name_byte b then Some Name else None)
place_after InAddress b = if b == closing_bracket then Some Closed else (if is_address_byte b then Some InAddress else None)
place_after Closed b = if b == colon then Some Colon else None
place_after Colon b = in_port 0 b
place_after (Port n) b = in_port n b

abbrev pub may_end : HostPlace → Bool
may_end Start = false
may_end MaybeEmpty = true
may_end Name = true
may_end InAddress = false
may_end Closed = true
may_end Colon = false
may_end (Port n) = true

-- what may follow, where this stands behind the host and its port
abbrev pub rest_with : (List ℕ → Type 0) → HostPlace → List ℕ → Type 0
rest_with Rest Start text = Many1 is_name_byte (MaybePort Rest) text ⊎ Then opening_bracket (Address (MaybePort Rest)) text
rest_with Rest MaybeEmpty text = MaybeHost Rest text
rest_with Rest Name text = Many is_name_byte (MaybePort Rest) text
rest_with Rest InAddress text = Address (MaybePort Rest) text
rest_with Rest Closed text = MaybePort Rest text
rest_with Rest Colon text = Digits Rest text
rest_with Rest (Port n) text = MoreDigits n Rest text

abbrev pub rest_of : HostPlace → List ℕ → Type 0
rest_of place text = rest_with End place text

-- what may follow at the next place, if there is one
abbrev pub next_with : (List ℕ → Type 0) → Option HostPlace → List ℕ → Type 0
next_with Rest None text = ⊥
next_with Rest (Some place) text = rest_with Rest place text
