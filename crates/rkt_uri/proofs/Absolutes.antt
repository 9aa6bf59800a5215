-- A text is an absolute URI exactly where it spells one, and what it spells is what it says.
use Rattle.std.proofs.Common.{◌≡◌, inl, inr, ◌↔◌, ℕ, ◌==◌, Bool, true, false, not, if◌then◌else◌, List, [], ◌∷◌, ◌++◌, refl, sym, ◌∙◌, ap, ap₂, subst, append_assoc, append-nil, codes, drop, nat_eq, unwrap_or, Option, Some, None}
use Rattle.std.specs.List.{before_first, after_first, starts_with}
use Rattle.std.proofs.lemmas.Slice.Eq.{starts_is}
use Rattle.std.proofs.lemmas.Bool.Decides.{Decides-eqb}
use Rattle.std.specs.Option.{option_map, option_and_then}
use Rattle.std.specs.Char.{is_ascii_alphabetic, is_ascii_digit}
use Rattle.rkt_grammar.specs.Grammar.{OnlyOf, IsFrontOf, LeavesAt, has_byte, behind_first}
use Rattle.rkt_uri.specs.Words.{Then}
use Rattle.rkt_uri.specs.Origin.{is_slash, is_question, query_text, is_query_byte}
use Rattle.rkt_uri.specs.Host.{Authority, MaybePort, MaybeHost, Address, is_name_byte, is_address_byte, is_colon, domain_in, port_behind, IsDomain, SpellsPort, SpellsAuthority}
use Rattle.rkt_uri.specs.Absolute.{is_scheme_byte, is_user_byte, UserThen, MaybeOrigin, Located, IsHierarchy, AbsoluteForm, Site, AbsoluteUri, SpellsSite, SpellsHierarchy, IsScheme, SpellsAbsolute, IsAbsolute, scheme_of, behind_slashes, is_at, without_user, host_and_port, host_of, port_of}
use Rattle.rkt_uri.specs.declared.origin_place.Profile.TheVariants.{Request}
use Rattle.rkt_uri.proofs.Firsts.{Free, before_free, has_free, before_stop, after_stop, has_stop, behind_stop, before_past, before_append, only_append, apart}
use Rattle.rkt_uri.proofs.Hosts.{many_split, many_join, then_split, port_split, port_join, port_digits, bracketed, makes, authority_said, leaves_same}

-- Words of the grammar, taken apart and put together.

host_split : (Rest : List ℕ → Type 0) (text : List ℕ) → MaybeHost Rest text
    → (host : Authority) × (front : List ℕ) × (rest : List ℕ) × SpellsAuthority front host × Rest rest × (text ≡ front ++ rest)
host_split Rest text (inl n) =
    let name = many_split is_name_byte (MaybePort Rest) text n in
    let port = port_split Rest name.1 name.3 in
    let host : Authority = record { domain = name.0; port = port.2 } in (
      host,
      name.0 ++ port.0,
      port.1,
      makes name.0 port.0 port.2 (inl name.2) port.3,
      port.4,
      name.4 ∙ ap (λ (x : List ℕ). name.0 ++ x) port.5 ∙ sym (append_assoc name.0 port.0 port.1),
    )
host_split Rest text (inr a) =
    let opened = then_split 91 (Address (MaybePort Rest)) text a in
    let inside = many_split is_address_byte (Then 93 (MaybePort Rest)) opened.0 opened.1 in
    let closed = then_split 93 (MaybePort Rest) inside.1 inside.3 in
    let port = port_split Rest closed.0 closed.1 in
    let domain : List ℕ = 91 ∷ (inside.0 ++ 93 ∷ []) in
    let host : Authority = record { domain = domain; port = port.2 } in (
      host,
      domain ++ port.0,
      port.1,
      makes domain port.0 port.2 (inr (inside.0, inside.2, refl)) port.3,
      port.4,
      opened.2
          ∙ ap (λ (x : List ℕ). 91 ∷ x) (inside.4 ∙ ap (λ (x : List ℕ). inside.0 ++ x) (closed.2 ∙ ap (λ (x : List ℕ). 93 ∷ x) port.5))
          ∙ sym (bracketed inside.0 (port.0 ++ port.1))
          ∙ sym (append_assoc domain port.0 port.1),
    )

domain_join : (Rest : List ℕ → Type 0) (domain port_text rest : List ℕ) (port : Option ℕ) → IsDomain domain → SpellsPort port_text port → Rest rest → MaybeHost Rest (domain ++ (port_text ++ rest))
domain_join Rest domain port_text rest port (inl only) is r = inl (many_join is_name_byte (MaybePort Rest) domain (port_text ++ rest) only (port_join Rest port_text rest port is r))
domain_join Rest domain port_text rest port (inr a) is r =
    let behind : List ℕ = port_text ++ rest in
    let P : List ℕ → Type 0 = Then 91 (Address (MaybePort Rest)) in
    let Q : List ℕ → Type 0 = λ x. P (x ++ behind) in
    inr (subst Q (sym a.2) (subst P (sym (bracketed a.0 behind)) (refl, many_join is_address_byte (Then 93 (MaybePort Rest)) a.0 (93 ∷ behind) a.1 (refl, port_join Rest port_text rest port is r))))

host_join : (Rest : List ℕ → Type 0) (front rest : List ℕ) (host : Authority) → SpellsAuthority front host → Rest rest → MaybeHost Rest (front ++ rest)
host_join Rest front rest host s r =
    let P : List ℕ → Type 0 = MaybeHost Rest in
    let same : front ++ rest ≡ host.domain ++ (s.port_text ++ rest) = ap (λ (x : List ℕ). x ++ rest) s.spelled ∙ append_assoc host.domain s.port_text rest in
    subst P (sym same) (domain_join Rest host.domain s.port_text rest host.port s.domain s.port r)

-- two slashes, a site, and what is behind it
abbrev Leads : List ℕ → Type 0
Leads text = (site : Site) × (front : List ℕ) × (rest : List ℕ) × SpellsSite front site × MaybeOrigin rest × (text ≡ front ++ rest)

site_split : (text : List ℕ) → Located text → Leads text
site_split text (inl h) =
    let host = host_split MaybeOrigin text h in
    let site : Site = record { user = None; host = host.0 } in
    (site, host.1, host.2, record { user = tt; host_text = host.1; host = host.3; spelled = refl }, host.4, host.5)
site_split text (inr u) =
    let user = many_split is_user_byte (Then 64 (MaybeHost MaybeOrigin)) text u in
    let ended = then_split 64 (MaybeHost MaybeOrigin) user.1 user.3 in
    let host = host_split MaybeOrigin ended.0 ended.1 in
    let site : Site = record { user = Some user.0; host = host.0 } in
    let front : List ℕ = user.0 ++ 64 ∷ [] in (
      site,
      front ++ host.1,
      host.2,
      record { user = user.2; host_text = host.1; host = host.3; spelled = refl },
      host.4,
      user.4
          ∙ ap (λ (x : List ℕ). user.0 ++ x) (ended.2 ∙ ap (λ (x : List ℕ). 64 ∷ x) host.5)
          ∙ sym (append_assoc user.0 (64 ∷ []) (host.1 ++ host.2))
          ∙ sym (append_assoc front host.1 host.2),
    )

site_join : (front rest : List ℕ) (user : Option (List ℕ)) (host : Authority) → SpellsSite front (record { user = user; host = host }) → MaybeOrigin rest → Located (front ++ rest)
site_join front rest None host s r =
    let P : List ℕ → Type 0 = λ x. Located (x ++ rest) in
    subst P (sym s.spelled) (inl (host_join MaybeOrigin s.host_text rest host s.host r))
site_join front rest (Some user) host s r =
    let P : List ℕ → Type 0 = λ x. Located (x ++ rest) in
    let Q : List ℕ → Type 0 = UserThen (MaybeHost MaybeOrigin) in
    let same : ((user ++ 64 ∷ []) ++ s.host_text) ++ rest ≡ user ++ 64 ∷ (s.host_text ++ rest) =
    append_assoc (user ++ 64 ∷ []) s.host_text rest ∙ append_assoc user (64 ∷ []) (s.host_text ++ rest) in
    subst P (sym s.spelled) (inr (subst Q (sym same) (many_join is_user_byte (Then 64 (MaybeHost MaybeOrigin)) user (64 ∷ (s.host_text ++ rest)) s.user (refl, host_join MaybeOrigin s.host_text rest host s.host r))))

abbrev Behind : List ℕ → Type 0
Behind text = (site : Option Site) × (rest : List ℕ) × SpellsHierarchy text site rest

hierarchy_split : (text : List ℕ) → IsHierarchy text → Behind text
hierarchy_split text (inl l) =
    let one = then_split 47 (Then 47 Located) text l in
    let two = then_split 47 Located one.0 one.1 in
    let site = site_split two.0 two.1 in
    (Some site.0, site.2, (site.1, site.3, site.4, one.2 ∙ ap (λ (x : List ℕ). 47 ∷ x) (two.2 ∙ ap (λ (x : List ℕ). 47 ∷ x) site.5)))
hierarchy_split text (inr p) = (None, text, (p, refl))

hierarchy_join : (text : List ℕ) (site : Option Site) (rest : List ℕ) → SpellsHierarchy text site rest → IsHierarchy text
hierarchy_join text None rest h = let P : List ℕ → Type 0 = IsHierarchy in subst P (sym h.1) (inr h.0)
hierarchy_join text (Some site) rest h =
    let P : List ℕ → Type 0 = IsHierarchy in
    subst P (sym h.3) (inl (refl, (refl, site_join h.0 rest site.user site.host h.1 h.2)))

-- what is of the form of an absolute URI spells one
spells_some : (text : List ℕ) → AbsoluteForm text → IsAbsolute text
spells_some [] one = absurd one
spells_some (c ∷ cs) one =
    let scheme = many_split is_scheme_byte (Then 58 IsHierarchy) cs one.1 in
    let ended = then_split 58 IsHierarchy scheme.1 scheme.3 in
    let behind = hierarchy_split ended.0 ended.1 in
    let uri : AbsoluteUri = record { scheme = c ∷ scheme.0; site = behind.0; rest = behind.1 } in (
      uri,
      record {
        scheme = (one.0, scheme.2);
        behind = ended.0;
        hierarchy = behind.2;
        spelled = ap (λ (x : List ℕ). c ∷ x) (scheme.4 ∙ ap (λ (x : List ℕ). scheme.0 ++ x) ended.2);
      },
    )

form_of : (scheme behind : List ℕ) → IsScheme scheme → IsHierarchy behind → AbsoluteForm (scheme ++ 58 ∷ behind)
form_of [] behind is h = absurd is
form_of (c ∷ cs) behind is h = (is.0, many_join is_scheme_byte (Then 58 IsHierarchy) cs (58 ∷ behind) is.1 (refl, h))

-- and what spells one is of the form of an absolute URI
formed : (text : List ℕ) → IsAbsolute text → AbsoluteForm text
formed text a =
    let s = a.1 in
    let P : List ℕ → Type 0 = AbsoluteForm in
    subst P (sym s.spelled) (form_of a.0.scheme s.behind s.scheme (hierarchy_join s.behind a.0.site a.0.rest s.hierarchy))

pub absolute_form : (text : List ℕ) → AbsoluteForm text ↔ IsAbsolute text
absolute_form text = (spells_some text, formed text)

pub leaves_absolute : (text : List ℕ) (at : ℕ) → LeavesAt AbsoluteForm text at → LeavesAt IsAbsolute text at
leaves_absolute text at l = leaves_same AbsoluteForm IsAbsolute absolute_form text at l

-- What a text says.

scheme_free : (scheme : List ℕ) → IsScheme scheme → Free is_colon scheme
scheme_free [] is = absurd is
scheme_free (c ∷ cs) is = ((apart is_ascii_alphabetic 58 refl (c ∷ []) (is.0, tt)).0, apart is_scheme_byte 58 refl cs is.1)

scheme_said : (text : List ℕ) (uri : AbsoluteUri) → SpellsAbsolute text uri → scheme_of text ≡ uri.scheme
scheme_said text uri s = ap (before_first is_colon) s.spelled ∙ before_stop is_colon uri.scheme 58 s.behind (scheme_free uri.scheme s.scheme) refl

behind_said : (text : List ℕ) (uri : AbsoluteUri) → (s : SpellsAbsolute text uri) → behind_first is_colon text ≡ Some s.behind
behind_said text uri s = ap (behind_first is_colon) s.spelled ∙ behind_stop is_colon uri.scheme 58 s.behind (scheme_free uri.scheme s.scheme) refl

-- a path alone has no site
lone : (rest : List ℕ) → ¬ IsFrontOf (codes "//") rest → behind_slashes rest ≡ None
lone rest never = by_test (starts_with nat_eq rest (codes "//")) refl
  where
    by_test : (t : Bool) → starts_with nat_eq rest (codes "//") ≡ t → (if t then Some (drop 2 rest) else None) ≡ None
    by_test true is = absurd (never (drop 2 rest, (starts_is Decides-eqb rest (codes "//") _ refl).0 is))
    by_test false is = refl

-- a byte that is of no host and no port is in none
authority_free : (c : ℕ) → is_name_byte c ≡ false → is_address_byte c ≡ false → is_ascii_digit c ≡ false → (not (91 == c) ≡ true) × (not (93 == c) ≡ true) × (not (58 == c) ≡ true)
    → (text : List ℕ) (host : Authority) → SpellsAuthority text host → Free (λ b. b == c) text
authority_free c name address digit marks text host s =
    let P : List ℕ → Type 0 = Free (λ b. b == c) in
    subst P (sym s.spelled) (only_append (λ b. not (b == c)) host.domain s.port_text (of_domain host.domain s.domain) (of_port s.port_text host.port s.port))
  where
    of_domain : (domain : List ℕ) → IsDomain domain → Free (λ b. b == c) domain
    of_domain domain (inl only) = apart is_name_byte c name domain only
    of_domain domain (inr a) =
        let P : List ℕ → Type 0 = Free (λ b. b == c) in
        subst P (sym a.2) (marks.0, only_append (λ b. not (b == c)) a.0 (93 ∷ []) (apart is_address_byte c address a.0 a.1) (marks.1, tt))

    of_port : (port_text : List ℕ) (port : Option ℕ) → SpellsPort port_text port → Free (λ b. b == c) port_text
    of_port port_text None is = let P : List ℕ → Type 0 = Free (λ b. b == c) in subst P (sym is) tt
    of_port port_text (Some k) p =
        let P : List ℕ → Type 0 = Free (λ b. b == c) in
        subst P (sym p.3) (marks.2, apart is_ascii_digit c digit (p.0 ∷ p.1) (port_digits 0 (p.0 ∷ p.1) k p.2))

-- nor is one that is not of a user part either in a site
site_free : (c : ℕ) → is_user_byte c ≡ false → not (64 == c) ≡ true → (text : List ℕ) (user : Option (List ℕ)) (host : Authority)
    → ((front : List ℕ) → SpellsAuthority front host → Free (λ b. b == c) front) → SpellsSite text (record { user = user; host = host }) → Free (λ b. b == c) text
site_free c fails mark text None host free s = let P : List ℕ → Type 0 = Free (λ b. b == c) in subst P (sym s.spelled) (free s.host_text s.host)
site_free c fails mark text (Some user) host free s =
    let P : List ℕ → Type 0 = Free (λ b. b == c) in
    let pass : ℕ → Bool = λ b. not (b == c) in
    subst P (sym s.spelled) (only_append pass (user ++ 64 ∷ []) s.host_text (only_append pass user (64 ∷ []) (apart is_user_byte c fails user s.user) (mark, tt)) (free s.host_text s.host))

-- a site goes as far as the next slash or question mark
site_cut : (site rest : List ℕ) → Free is_slash site → Free is_question site → MaybeOrigin rest → before_first is_question (before_first is_slash (site ++ rest)) ≡ site
site_cut site rest slash question (inl e) =
    let same : site ++ rest ≡ site = ap (λ (x : List ℕ). site ++ x) e ∙ append-nil site in
    ap (λ (x : List ℕ). before_first is_question (before_first is_slash x)) same ∙ ap (before_first is_question) (before_free is_slash site slash) ∙ before_free is_question site question
site_cut site rest slash question (inr (inl o)) =
    let more : List ℕ = o.1.fits.begins.0 ++ query_text o.0.query in
    let begins : rest ≡ 47 ∷ more = o.1.spelled ∙ ap (λ (x : List ℕ). x ++ query_text o.0.query) o.1.fits.begins.1 in
    ap (λ (x : List ℕ). before_first is_question (before_first is_slash (site ++ x))) begins
    ∙ ap (before_first is_question) (before_stop is_slash site 47 more slash refl)
    ∙ before_free is_question site question
site_cut site rest slash question (inr (inr q)) =
    let asked = then_split 63 (OnlyOf (is_query_byte Request)) rest q in
    ap (λ (x : List ℕ). before_first is_question (before_first is_slash (site ++ x))) asked.2
    ∙ ap (before_first is_question) (before_append is_slash site (63 ∷ asked.0) slash ∙ ap (λ (x : List ℕ). site ++ x) (before_past is_slash 63 asked.0 refl))
    ∙ before_stop is_question site 63 (before_first is_slash asked.0) question refl

-- the user part that a site says, and what is behind it
abbrev user_of : List ℕ → Option (List ℕ)
user_of text = if has_byte is_at text then Some (before_first is_at text) else None

parts_said : (text : List ℕ) (user : Option (List ℕ)) (host : Authority) → (s : SpellsSite text (record { user = user; host = host })) → (user_of text ≡ user) × (without_user text ≡ s.host_text)
parts_said text None host s =
    let free = authority_free 64 refl refl refl (refl, refl, refl) s.host_text host s.host in
    let none = has_free is_at s.host_text free in (
      ap user_of s.spelled ∙ ap (λ (t : Bool). if t then Some (before_first is_at s.host_text) else None) none,
      ap without_user s.spelled ∙ ap (λ (t : Bool). unwrap_or (if t then Some (after_first is_at s.host_text) else None) s.host_text) none,
    )
parts_said text (Some user) host s =
    let whole : List ℕ = user ++ 64 ∷ s.host_text in
    let same : text ≡ whole = s.spelled ∙ append_assoc user (64 ∷ []) s.host_text in
    let free = apart is_user_byte 64 refl user s.user in
    let some = has_stop is_at user 64 s.host_text free refl in (
      ap user_of same ∙ ap (λ (t : Bool). if t then Some (before_first is_at whole) else None) some ∙ ap (λ (x : List ℕ). Some x) (before_stop is_at user 64 s.host_text free refl),
      ap without_user same ∙ ap (λ (t : Bool). unwrap_or (if t then Some (after_first is_at whole) else None) whole) some ∙ after_stop is_at user 64 s.host_text free refl,
    )

-- what stands behind two slashes, cut behind its site
abbrev site_in : List ℕ → List ℕ
site_in text = before_first is_question (before_first is_slash text)

site_said : (front rest : List ℕ) (site : Site) → SpellsSite front site → MaybeOrigin rest → site_in (front ++ rest) ≡ front
site_said front rest site s r =
    site_cut front rest
    (site_free 47 refl refl front site.user site.host (authority_free_of 47 refl refl refl (refl, refl, refl)) s)
    (site_free 63 refl refl front site.user site.host (authority_free_of 63 refl refl refl (refl, refl, refl)) s)
    r
  where
    authority_free_of : (c : ℕ) → is_name_byte c ≡ false → is_address_byte c ≡ false → is_ascii_digit c ≡ false → (not (91 == c) ≡ true) × (not (93 == c) ≡ true) × (not (58 == c) ≡ true)
        → (text : List ℕ) → SpellsAuthority text site.host → Free (λ b. b == c) text
    authority_free_of c name address digit marks text h = authority_free c name address digit marks text site.host h

-- the host and the port behind two slashes
host_said : (front rest : List ℕ) (site : Site) → (s : SpellsSite front site) → MaybeOrigin rest → host_and_port (front ++ rest) ≡ s.host_text
host_said front rest site s r = ap without_user (site_said front rest site s r) ∙ (parts_said front site.user site.host s).1

-- the host and the port that a text says are those of the site that it spells
authority_said_in : (behind rest : List ℕ) (site : Option Site) → SpellsHierarchy behind site rest
    → (option_map domain_in (option_map host_and_port (behind_slashes behind)) ≡ option_map (λ (s : Site). s.host.domain) site)
    × (option_and_then port_behind (option_map host_and_port (behind_slashes behind)) ≡ option_and_then (λ (s : Site). s.host.port) site)
authority_said_in behind rest None h =
    let none : behind_slashes behind ≡ None = ap behind_slashes h.1 ∙ lone rest h.0.1 in (
      ap (λ (o : Option (List ℕ)). option_map domain_in (option_map host_and_port o)) none,
      ap (λ (o : Option (List ℕ)). option_and_then port_behind (option_map host_and_port o)) none,
    )
authority_said_in behind rest (Some site) h =
    let text : List ℕ = h.0 ++ rest in
    let some : behind_slashes behind ≡ Some text = ap behind_slashes h.3 in
    let host : host_and_port text ≡ h.1.host_text = host_said h.0 rest site h.1 h.2 in
    let said = authority_said h.1.host_text site.host h.1.host in (
      ap (λ (o : Option (List ℕ)). option_map domain_in (option_map host_and_port o)) some
          ∙ ap (λ (x : List ℕ). Some (domain_in x)) host
          ∙ ap (λ (a : Authority). Some a.domain) said,
      ap (λ (o : Option (List ℕ)). option_and_then port_behind (option_map host_and_port o)) some
          ∙ ap port_behind host
          ∙ ap (λ (a : Authority). a.port) said,
    )

pub says_scheme : (text : List ℕ) (uri : AbsoluteUri) → SpellsAbsolute text uri → scheme_of text ≡ uri.scheme
says_scheme text uri s = scheme_said text uri s

pub says_host : (text : List ℕ) (uri : AbsoluteUri) → SpellsAbsolute text uri → host_of text ≡ option_map (λ (site : Site). site.host.domain) uri.site
says_host text uri s =
    ap (λ (o : Option (List ℕ)). option_map domain_in (option_map host_and_port (option_and_then behind_slashes o))) (behind_said text uri s)
    ∙ (authority_said_in s.behind uri.rest uri.site s.hierarchy).0

pub says_port : (text : List ℕ) (uri : AbsoluteUri) → SpellsAbsolute text uri → port_of text ≡ option_and_then (λ (site : Site). site.host.port) uri.site
says_port text uri s =
    ap (λ (o : Option (List ℕ)). option_and_then port_behind (option_map host_and_port (option_and_then behind_slashes o))) (behind_said text uri s)
    ∙ (authority_said_in s.behind uri.rest uri.site s.hierarchy).1

-- A text spells one absolute URI at most.

tail_same : (a b : ℕ) (xs ys : List ℕ) → a ∷ xs ≡ b ∷ ys → xs ≡ ys
tail_same a b xs ys e = cc

inside_same : (xs ys : List ℕ) → Some xs ≡ Some ys → xs ≡ ys
inside_same xs ys e = cc

cancel : (front xs ys : List ℕ) → front ++ xs ≡ front ++ ys → xs ≡ ys
cancel [] xs ys e = e
cancel (c ∷ cs) xs ys e = cancel cs xs ys (tail_same c c (cs ++ xs) (cs ++ ys) e)

-- one site at most
one_site : (text : List ℕ) (a b : Site) → SpellsSite text a → SpellsSite text b → a ≡ b
one_site text a b one other =
    let mine = parts_said text a.user a.host one in
    let theirs = parts_said text b.user b.host other in
    let P : List ℕ → Type 0 = λ x. SpellsAuthority x b.host in
    let hosts : a.host ≡ b.host = sym (authority_said one.host_text a.host one.host) ∙ authority_said one.host_text b.host (subst P (sym theirs.1 ∙ mine.1) other.host) in
    let make : Option (List ℕ) → Authority → Site = λ user host. record { user = user; host = host } in
    ap₂ make (sym mine.0 ∙ theirs.0) hosts

-- and one site and what is behind it
one_hierarchy : (text : List ℕ) (a b : Option Site) (rest more : List ℕ) → SpellsHierarchy text a rest → SpellsHierarchy text b more → (a ≡ b) × (rest ≡ more)
one_hierarchy text None None rest more one other = (refl, sym one.1 ∙ other.1)
one_hierarchy text None (Some b) rest more one other = absurd (one.0.1 (other.0 ++ more, sym one.1 ∙ other.3))
one_hierarchy text (Some a) None rest more one other = absurd (other.0.1 (one.0 ++ rest, sym other.1 ∙ one.3))
one_hierarchy text (Some a) (Some b) rest more one other =
    let slashed : 47 ∷ (one.0 ++ rest) ≡ 47 ∷ (other.0 ++ more) = tail_same 47 47 _ _ (sym one.3 ∙ other.3) in
    let same : one.0 ++ rest ≡ other.0 ++ more = tail_same 47 47 _ _ slashed in
    let fronts : one.0 ≡ other.0 = sym (site_said one.0 rest a one.1 one.2) ∙ ap site_in same ∙ site_said other.0 more b other.1 other.2 in
    let P : List ℕ → Type 0 = λ x. SpellsSite x b in
    let sites : a ≡ b = one_site one.0 a b one.1 (subst P (sym fronts) other.1) in
    (ap (λ (s : Site). Some s) sites, cancel one.0 rest more (same ∙ ap (λ (x : List ℕ). x ++ more) (sym fronts)))

pub one_absolute : (text : List ℕ) (a b : AbsoluteUri) → SpellsAbsolute text a → SpellsAbsolute text b → a ≡ b
one_absolute text a b one other =
    let behind : other.behind ≡ one.behind = inside_same _ _ (sym (behind_said text b other) ∙ behind_said text a one) in
    let P : List ℕ → Type 0 = λ x. SpellsHierarchy x b.site b.rest in
    let rests = one_hierarchy one.behind a.site b.site a.rest b.rest one.hierarchy (subst P behind other.hierarchy) in
    let schemes : a.scheme ≡ b.scheme = sym (scheme_said text a one) ∙ scheme_said text b other in
    let make : List ℕ → Option Site → List ℕ → AbsoluteUri = λ scheme site rest. record { scheme = scheme; site = site; rest = rest } in
    ap (λ (s : List ℕ). make s a.site a.rest) schemes ∙ ap₂ (make b.scheme) rests.0 rests.1
