-- A text is a host exactly where it spells one, and what it spells is what it says.
use Rattle.std.proofs.Common.{◌≡◌, ◌≢◌, inl, inr, ◌↔◌, ℕ, ◌&&◌, Bool, true, false, not, nat_le, if◌then◌else◌, List, [], ◌∷◌, ◌++◌, refl, sym, ◌∙◌, ap, ap₂, subst, append_assoc, append-nil, Option, Some, None}
use Rattle.std.specs.List.{before_first, after_first}
use Rattle.std.specs.Char.{is_ascii_digit}
use Rattle.rkt_grammar.specs.Grammar.{OnlyOf, LeavesAt}
use Rattle.rkt_uri.specs.Words.{Then, Many}
use Rattle.rkt_uri.specs.Host.{is_name_byte, is_address_byte, is_port_digit, with_digit, is_colon, is_close, MoreDigits, MaybePort, Address, End, HostForm, port_on, port_in, Authority, domain_in, port_behind, authority_of, IsDomain, SpellsPort, SpellsAuthority, SpellsHost, IsHost}
use Rattle.rkt_uri.proofs.Firsts.{Free, before_free, has_free, before_stop, after_stop, has_stop, only_append, apart}

-- Words of the grammar, taken apart and put together.

pub many_split : (test : ℕ → Bool) (Rest : List ℕ → Type 0) (text : List ℕ) → Many test Rest text
    → (front : List ℕ) × (rest : List ℕ) × OnlyOf test front × Rest rest × (text ≡ front ++ rest)
many_split test Rest [] m = ([], [], tt, m, refl)
many_split test Rest (c ∷ cs) (inl r) = ([], c ∷ cs, tt, r, refl)
many_split test Rest (c ∷ cs) (inr n) =
    let s = many_split test Rest cs n.1 in
    (c ∷ s.0, s.1, (n.0, s.2), s.3, ap (λ (x : List ℕ). c ∷ x) s.4)

pub many_join : (test : ℕ → Bool) (Rest : List ℕ → Type 0) (front rest : List ℕ) → OnlyOf test front → Rest rest → Many test Rest (front ++ rest)
many_join test Rest [] [] only r = r
many_join test Rest [] (c ∷ cs) only r = inl r
many_join test Rest (b ∷ bs) rest only r = inr (only.0, many_join test Rest bs rest only.1 r)

pub then_split : (b : ℕ) (Rest : List ℕ → Type 0) (text : List ℕ) → Then b Rest text → (rest : List ℕ) × Rest rest × (text ≡ b ∷ rest)
then_split b Rest [] t = absurd t
then_split b Rest (c ∷ cs) t = (cs, t.1, ap (λ (x : ℕ). x ∷ cs) t.0)

-- Ports.

-- a digit goes on with a port
port_step : (n b : ℕ) (digits : List ℕ) (k : ℕ) → port_on n (b ∷ digits) ≡ Some k → (is_port_digit n b ≡ true) × (port_on (with_digit n b) digits ≡ Some k)
port_step n b digits k e = by_test (is_port_digit n b) refl e
  where
    by_test : (t : Bool) → is_port_digit n b ≡ t → (if t then port_on (with_digit n b) digits else None) ≡ Some k
        → (is_port_digit n b ≡ true) × (port_on (with_digit n b) digits ≡ Some k)
    by_test true is e = (is, e)
    by_test false is e = absurd (cc e)

port_on-digit : (n b : ℕ) (digits : List ℕ) → is_port_digit n b ≡ true → port_on n (b ∷ digits) ≡ port_on (with_digit n b) digits
port_on-digit n b digits is = ap (λ (t : Bool). if t then port_on (with_digit n b) digits else None) is

digits_split : (n : ℕ) (Rest : List ℕ → Type 0) (text : List ℕ) → MoreDigits n Rest text
    → (digits : List ℕ) × (rest : List ℕ) × (k : ℕ) × (port_on n digits ≡ Some k) × Rest rest × (text ≡ digits ++ rest)
digits_split n Rest [] m = ([], [], n, refl, m, refl)
digits_split n Rest (b ∷ bs) (inl r) = ([], b ∷ bs, n, refl, r, refl)
digits_split n Rest (b ∷ bs) (inr d) =
    let s = digits_split (with_digit n b) Rest bs d.1 in
    (b ∷ s.0, s.1, s.2, port_on-digit n b s.0 d.0 ∙ s.3, s.4, ap (λ (x : List ℕ). b ∷ x) s.5)

digits_join : (n : ℕ) (Rest : List ℕ → Type 0) (digits rest : List ℕ) (k : ℕ) → port_on n digits ≡ Some k → Rest rest → MoreDigits n Rest (digits ++ rest)
digits_join n Rest [] [] k e r = r
digits_join n Rest [] (c ∷ cs) k e r = inl r
digits_join n Rest (b ∷ bs) rest k e r = let s = port_step n b bs k e in inr (s.0, digits_join (with_digit n b) Rest bs rest k s.1 r)

pub port_split : (Rest : List ℕ → Type 0) (text : List ℕ) → MaybePort Rest text
    → (front : List ℕ) × (rest : List ℕ) × (port : Option ℕ) × SpellsPort front port × Rest rest × (text ≡ front ++ rest)
port_split Rest text (inl r) = ([], text, None, refl, r, refl)
port_split Rest [] (inr t) = absurd t
port_split Rest (c ∷ []) (inr t) = absurd t.1
port_split Rest (c ∷ b ∷ bs) (inr t) =
    let s = digits_split (with_digit 0 b) Rest bs t.1.1 in
    (58 ∷ b ∷ s.0, s.1, Some s.2, (b, s.0, port_on-digit 0 b s.0 t.1.0 ∙ s.3, refl), s.4, ap₂ (λ (x : ℕ) (y : List ℕ). x ∷ b ∷ y) t.0 s.5)

pub port_join : (Rest : List ℕ → Type 0) (front rest : List ℕ) (port : Option ℕ) → SpellsPort front port → Rest rest → MaybePort Rest (front ++ rest)
port_join Rest front rest None is r = let P : List ℕ → Type 0 = λ x. Rest (x ++ rest) in inl (subst P (sym is) r)
port_join Rest front rest (Some k) p r =
    let P : List ℕ → Type 0 = λ x. MaybePort Rest (x ++ rest) in
    let s = port_step 0 p.0 p.1 k p.2 in
    subst P (sym p.3) (inr (refl, (s.0, digits_join (with_digit 0 p.0) Rest p.1 rest k s.1 r)))

-- Hosts.

-- an address, and what is behind it
pub bracketed : (inside rest : List ℕ) → (91 ∷ (inside ++ 93 ∷ [])) ++ rest ≡ (91 ∷ inside) ++ 93 ∷ rest
bracketed inside rest = ap (λ (x : List ℕ). 91 ∷ x) (append_assoc inside (93 ∷ []) rest)

-- a domain and a port are a text
pub makes : (domain port_text : List ℕ) (port : Option ℕ) → IsDomain domain → SpellsPort port_text port → SpellsAuthority (domain ++ port_text) (record { domain = domain; port = port })
makes domain port_text port is reads = record { domain = is; port_text = port_text; port = reads; spelled = refl }

-- what is of the form of a host spells one
spells_some : (text : List ℕ) → HostForm text → IsHost text
spells_some [] (inl n) = absurd n
spells_some (c ∷ cs) (inl n) =
    let name = many_split is_name_byte (MaybePort End) cs n.1 in
    let port = port_split End name.1 name.3 in
    let same : c ∷ cs ≡ (c ∷ name.0) ++ port.0 =
    ap (λ (x : List ℕ). c ∷ x) (name.4 ∙ ap (λ (x : List ℕ). name.0 ++ x) (port.5 ∙ ap (λ (x : List ℕ). port.0 ++ x) port.4 ∙ append-nil port.0)) in
    let host : Authority = record { domain = c ∷ name.0; port = port.2 } in
    let P : List ℕ → Type 0 = λ x. SpellsAuthority x host in
    (host, record { some = λ e. cc e; authority = subst P (sym same) (makes (c ∷ name.0) port.0 port.2 (inl (n.0, name.2)) port.3) })
spells_some text (inr a) =
    let opened = then_split 91 (Address (MaybePort End)) text a in
    let inside = many_split is_address_byte (Then 93 (MaybePort End)) opened.0 opened.1 in
    let closed = then_split 93 (MaybePort End) inside.1 inside.3 in
    let port = port_split End closed.0 closed.1 in
    let domain : List ℕ = 91 ∷ (inside.0 ++ 93 ∷ []) in
    let host : Authority = record { domain = domain; port = port.2 } in
    let behind : closed.0 ≡ port.0 = port.5 ∙ ap (λ (x : List ℕ). port.0 ++ x) port.4 ∙ append-nil port.0 in
    let same : text ≡ domain ++ port.0 =
    opened.2
    ∙ ap (λ (x : List ℕ). 91 ∷ x) (inside.4 ∙ ap (λ (x : List ℕ). inside.0 ++ x) (closed.2 ∙ ap (λ (x : List ℕ). 93 ∷ x) behind))
    ∙ sym (bracketed inside.0 port.0) in
    let P : List ℕ → Type 0 = λ x. SpellsAuthority x host in
    (host, record { some = λ e. cc e; authority = subst P (sym same) (makes domain port.0 port.2 (inr (inside.0, inside.2, refl)) port.3) })

port_end : (port_text : List ℕ) (port : Option ℕ) → SpellsPort port_text port → MaybePort End port_text
port_end port_text port is = subst (MaybePort End) (append-nil port_text) (port_join End port_text [] port is refl)

form_of : (domain port_text : List ℕ) (port : Option ℕ) → domain ≢ [] → IsDomain domain → SpellsPort port_text port → HostForm (domain ++ port_text)
form_of [] port_text port some (inl only) is = absurd (some refl)
form_of (d ∷ ds) port_text port some (inl only) is = inl (only.0, many_join is_name_byte (MaybePort End) ds port_text only.1 (port_end port_text port is))
form_of domain port_text port some (inr a) is =
    let P : List ℕ → Type 0 = Then 91 (Address (MaybePort End)) in
    let Q : List ℕ → Type 0 = λ x. P (x ++ port_text) in
    inr (subst Q (sym a.2) (subst P (sym (bracketed a.0 port_text)) (refl, many_join is_address_byte (Then 93 (MaybePort End)) a.0 (93 ∷ port_text) a.1 (refl, port_end port_text port is))))

-- and what spells one is of the form of a host
formed : (text : List ℕ) → IsHost text → HostForm text
formed text h =
    let s = h.1.authority in
    subst HostForm (sym s.spelled) (form_of h.0.domain s.port_text h.0.port h.1.some s.domain s.port)

pub host_form : (text : List ℕ) → HostForm text ↔ IsHost text
host_form text = (spells_some text, formed text)

-- What a text says.

and_left : (s t : Bool) → (s && t) ≡ true → s ≡ true
and_left true t e = refl
and_left false t e = e

pub port_digits : (n : ℕ) (digits : List ℕ) (k : ℕ) → port_on n digits ≡ Some k → OnlyOf is_ascii_digit digits
port_digits n [] k e = tt
port_digits n (b ∷ bs) k e = let s = port_step n b bs k e in (and_left (is_ascii_digit b) (nat_le (with_digit n b) 65535) s.0, port_digits (with_digit n b) bs k s.1)

-- no port has a closing bracket
port_open : (port_text : List ℕ) (port : Option ℕ) → SpellsPort port_text port → Free is_close port_text
port_open port_text None is = subst (Free is_close) (sym is) tt
port_open port_text (Some k) p = subst (Free is_close) (sym p.3) (refl, apart is_ascii_digit 93 refl (p.0 ∷ p.1) (port_digits 0 (p.0 ∷ p.1) k p.2))

port_said : (port_text : List ℕ) (port : Option ℕ) → SpellsPort port_text port → port_in port_text ≡ port
port_said port_text None is = ap port_in is
port_said port_text (Some k) p =
    let digits : List ℕ = p.0 ∷ p.1 in
    ap port_in p.3
    ∙ ap (λ (t : Bool). if t then port_on 0 (after_first is_colon (58 ∷ digits)) else None) (has_stop is_colon [] 58 digits tt refl)
    ∙ ap (port_on 0) (after_stop is_colon [] 58 digits tt refl)
    ∙ p.2

-- the name before a port
name_said : (name port_text : List ℕ) (port : Option ℕ) → OnlyOf is_name_byte name → SpellsPort port_text port → before_first is_colon (name ++ port_text) ≡ name
name_said name port_text None only is =
    ap (λ (x : List ℕ). before_first is_colon (name ++ x)) is ∙ ap (before_first is_colon) (append-nil name) ∙ before_free is_colon name (apart is_name_byte 58 refl name only)
name_said name port_text (Some k) only p =
    ap (λ (x : List ℕ). before_first is_colon (name ++ x)) p.3 ∙ before_stop is_colon name 58 (p.0 ∷ p.1) (apart is_name_byte 58 refl name only) refl

-- the port behind a name
port_behind_name : (name port_text : List ℕ) (port : Option ℕ) → OnlyOf is_name_byte name → SpellsPort port_text port → port_in (name ++ port_text) ≡ port
port_behind_name name port_text None only is =
    ap (λ (x : List ℕ). port_in (name ++ x)) is
    ∙ ap port_in (append-nil name)
    ∙ ap (λ (t : Bool). if t then port_on 0 (after_first is_colon name) else None) (has_free is_colon name (apart is_name_byte 58 refl name only))
port_behind_name name port_text (Some k) only p =
    let digits : List ℕ = p.0 ∷ p.1 in
    let free = apart is_name_byte 58 refl name only in
    ap (λ (x : List ℕ). port_in (name ++ x)) p.3
    ∙ ap (λ (t : Bool). if t then port_on 0 (after_first is_colon (name ++ 58 ∷ digits)) else None) (has_stop is_colon name 58 digits free refl)
    ∙ ap (port_on 0) (after_stop is_colon name 58 digits free refl)
    ∙ p.2

-- a domain and a port are what their text says
says : (domain port_text : List ℕ) (port : Option ℕ) → IsDomain domain → SpellsPort port_text port
    → (domain_in (domain ++ port_text) ≡ domain) × (port_behind (domain ++ port_text) ≡ port)
says domain port_text port (inl only) is =
    let text : List ℕ = domain ++ port_text in
    let unclosed = has_free is_close text (only_append (λ b. not (is_close b)) domain port_text (apart is_name_byte 93 refl domain only) (port_open port_text port is)) in (
      ap (λ (t : Bool). if t then before_first is_close text ++ 93 ∷ [] else before_first is_colon text) unclosed ∙ name_said domain port_text port only is,
      ap (λ (t : Bool). if t then port_in (after_first is_close text) else port_in text) unclosed ∙ port_behind_name domain port_text port only is,
    )
says domain port_text port (inr a) is =
    let front : List ℕ = 91 ∷ a.0 in
    let text : List ℕ = front ++ 93 ∷ port_text in
    let same : domain ++ port_text ≡ text = ap (λ (x : List ℕ). x ++ port_text) a.2 ∙ bracketed a.0 port_text in
    let free : Free is_close front = (refl, apart is_address_byte 93 refl a.0 a.1) in
    let closed = has_stop is_close front 93 port_text free refl in (
      ap domain_in same
          ∙ ap (λ (t : Bool). if t then before_first is_close text ++ 93 ∷ [] else before_first is_colon text) closed
          ∙ ap (λ (x : List ℕ). x ++ 93 ∷ []) (before_stop is_close front 93 port_text free refl)
          ∙ sym a.2,
      ap port_behind same
          ∙ ap (λ (t : Bool). if t then port_in (after_first is_close text) else port_in text) closed
          ∙ ap port_in (after_stop is_close front 93 port_text free refl)
          ∙ port_said port_text port is,
    )

pub authority_said : (text : List ℕ) (host : Authority) → SpellsAuthority text host → authority_of text ≡ host
authority_said text host s =
    let said = says host.domain s.port_text host.port s.domain s.port in
    let make : List ℕ → Option ℕ → Authority = λ domain port. record { domain = domain; port = port } in
    ap authority_of s.spelled ∙ ap₂ make said.0 said.1

pub host_said : (text : List ℕ) (host : Authority) → SpellsHost text host → authority_of text ≡ host
host_said text host s = authority_said text host s.authority

pub one_host : (text : List ℕ) (a b : Authority) → SpellsHost text a → SpellsHost text b → a ≡ b
one_host text a b one other = sym (host_said text a one) ∙ host_said text b other

-- a text that is a host spells what it says
pub spells_said : (text : List ℕ) (host : Authority) → IsHost text → host ≡ authority_of text → SpellsHost text host
spells_said text host h is = let P : Authority → Type 0 = SpellsHost text in subst P (sym (is ∙ host_said text h.0 h.1)) h.1

-- A text leaves one grammar where it leaves another of the same texts.
pub leaves_same : (A B : List ℕ → Type 0) → ((text : List ℕ) → A text ↔ B text) → (text : List ℕ) (at : ℕ) → LeavesAt A text at → LeavesAt B text at
leaves_same A B same text at l = record {
  outside = λ b. l.outside ((same text).1 b);
  within = l.within;
  begins = (l.begins.0, (same _).0 l.begins.1);
  longest = λ n fits b. l.longest n fits (b.0, (same _).1 b.1);
}

pub leaves_host : (text : List ℕ) (at : ℕ) → LeavesAt HostForm text at → LeavesAt IsHost text at
leaves_host text at l = leaves_same HostForm IsHost host_form text at l
