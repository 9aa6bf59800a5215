-- The host of an absolute URI, where it has one.
use Rattle.std.proofs.Common.{◌≡◌, ◌≢◌, ◌↔◌, ℕ, Bool, true, false, not, List, [], ◌∷◌, length, nat_eq, Option, Some, None, refl, sym, subst, arith}
use Rattle.std.specs.Prelude.{IsTrue}
use Rattle.std.specs.Option.{option_map}
use Rattle.std.proofs.lemmas.Bool.Decides.{nat_tests}
use Rattle.rkt_uri.specs.Absolute.{AbsoluteUri, Site, SpellsAbsolute, IsAbsolute}
use Rattle.rkt_shield.specs.Allow.{HasHost, SiteHasHost}

abbrev pub domain_of : Option Site → Option (List ℕ)
domain_of site = option_map (λ (site : Site). site.host.domain) site

-- what is told of the host of the absolute URI that a text spells
abbrev pub Tells : List ℕ → Option (List ℕ) → Type 0
Tells text host = (uri : AbsoluteUri) → SpellsAbsolute text uri → host ≡ domain_of uri.site

has_some : (site : Option Site) (host : List ℕ) → Some host ≡ domain_of site → host ≢ [] → SiteHasHost site
has_some None host e some = cc
has_some (Some site) host e some = λ empty. some (cc)

some_has : (site : Option Site) (host : List ℕ) → Some host ≡ domain_of site → SiteHasHost site → host ≢ []
some_has None host e has = absurd has
some_has (Some site) host e has = λ empty. has (cc)

none_has : (site : Option Site) → None ≡ domain_of site → ¬ SiteHasHost site
none_has None e has = has
none_has (Some site) e has = cc

pub has_host : (text host : List ℕ) → IsAbsolute text → Tells text (Some host) → (host ≢ []) ↔ HasHost text
has_host text host is tells = (
  λ some uri spells. has_some uri.site host (tells uri spells) some,
  λ has. some_has is.0.site host (tells is.0 is.1) (has is.0 is.1),
)

pub has_none : (text : List ℕ) → IsAbsolute text → Tells text None → ¬ HasHost text
has_none text is tells = λ has. none_has is.0.site (tells is.0 is.1) (has is.0 is.1)

is_empty : (host : List ℕ) → nat_eq (length host) 0 ≡ true → host ≡ []
is_empty [] e = refl
is_empty (b ∷ bs) e = absurd (grind (arith, nat_tests, e))

pub not_empty : (host : List ℕ) (empty : Bool) → empty ≡ nat_eq (length host) 0 → IsTrue (not empty) ↔ (host ≢ [])
not_empty host true e = (λ t. cc, λ some. absurd (some (is_empty host (sym e))))
not_empty host false e = (λ _. λ h. absurd (false≢ e h), λ _. refl)
  where
    false≢ : false ≡ nat_eq (length host) 0 → host ≡ [] → ⊥
    false≢ e h = let f : false ≡ nat_eq (length {A = ℕ} []) 0 = subst (λ l. false ≡ nat_eq (length {A = ℕ} l) 0) h e in cc
