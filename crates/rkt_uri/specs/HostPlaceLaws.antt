-- What may follow in a host, byte by byte.
use Rattle.std.proofs.Common.{◌≡◌, ℕ, List, [], ◌∷◌, Bool, true, false, ◌==◌, if◌then◌else◌, refl, ◌⊎◌, inl, inr, ◌↔◌, Option, Some, None, MatchOption, sym, ◌∙◌, arith}
use Rattle.std.proofs.lemmas.Bool.{false≢true}
use Rattle.rkt_grammar.specs.Grammar.{Begins}
use Rattle.rkt_uri.specs.Words.{Many}
use Rattle.rkt_grammar.specs.ByteLaws.{equal, differ, clash}
use Rattle.rkt_uri.specs.Host.{is_name_byte, is_address_byte, is_port_digit, with_digit, MoreDigits, Digits, MaybePort, Address, End, MaybeHost}
use Rattle.rkt_uri.specs.declared.host_place.HostPlace.{HostPlace}
use Rattle.rkt_uri.specs.declared.host_place.HostPlace.TheVariants.{Start, MaybeEmpty, Name, Address as InAddress, Closed, Colon, Port}
use Rattle.rkt_uri.specs.HostPlaces.{place_after, may_end, rest_with, rest_of, next_with}

no_bracket_in_name : is_name_byte 91 ≡ false
no_bracket_in_name = refl

no_colon_in_name : is_name_byte 58 ≡ false
no_colon_in_name = refl

no_close_in_address : is_address_byte 93 ≡ false
no_close_in_address = refl

-- A byte goes on in the host and its port, or begins what is behind them.

from_start : (Rest : List ℕ → Type 0) (b : ℕ) (rest : List ℕ) (t u : Bool) → (b == 91) ≡ t → is_name_byte b ≡ u
    → rest_with Rest Start (b ∷ rest) ↔ next_with Rest (if t then Some InAddress else (if u then Some Name else None)) rest
from_start Rest b rest true u is p = (
  λ h. elim h [ inl n ↦ absurd (clash is_name_byte b 91 (equal b 91 is) no_bracket_in_name n.0) | inr a ↦ a.1 ],
  λ r. inr (equal b 91 is, r),
)
from_start Rest b rest false true is p = (λ h. elim h [ inl n ↦ n.1 | inr a ↦ absurd (differ b 91 is a.0) ], λ r. inl (p, r))
from_start Rest b rest false false is p =
    (λ h. elim h [ inl n ↦ false≢true (sym p ∙ n.0) | inr a ↦ differ b 91 is a.0 ], λ n. absurd n)

from_closed : (Rest : List ℕ → Type 0) (b : ℕ) (rest : List ℕ) (t : Bool) → (b == 58) ≡ t
    → MaybePort Rest (b ∷ rest) ↔ (Rest (b ∷ rest) ⊎ next_with Rest (if t then Some Colon else None) rest)
from_closed Rest b rest true is =
    (λ h. elim h [ inl r ↦ inl r | inr p ↦ inr p.1 ], λ h. elim h [ inl r ↦ inl r | inr d ↦ inr (equal b 58 is, d) ])
from_closed Rest b rest false is =
    (λ h. elim h [ inl r ↦ inl r | inr p ↦ absurd (differ b 58 is p.0) ], λ h. elim h [ inl r ↦ inl r | inr n ↦ absurd n ])

from_name : (Rest : List ℕ → Type 0) (b : ℕ) (rest : List ℕ) (t u : Bool)
    → (b == 58) ≡ t
    → is_name_byte b ≡ u
    → Many is_name_byte (MaybePort Rest) (b ∷ rest)
    ↔ (Rest (b ∷ rest) ⊎ next_with Rest (if t then Some Colon else (if u then Some Name else None)) rest)
from_name Rest b rest true u is p = (
  λ h. elim h [
    | inl m ↦ (from_closed Rest b rest true is).0 m
    | inr n ↦ absurd (clash is_name_byte b 58 (equal b 58 is) no_colon_in_name n.0)
  ],
  λ h. inl ((from_closed Rest b rest true is).1 h),
)
from_name Rest b rest false true is p = (
  λ h. elim h [ inl m ↦ in_middle m | inr n ↦ inr n.1 ],
  λ h. elim h [ inl r ↦ inl (inl r) | inr n ↦ inr (p, n) ],
)
  where
    in_middle : MaybePort Rest (b ∷ rest) → Rest (b ∷ rest) ⊎ Many is_name_byte (MaybePort Rest) rest
    in_middle (inl r) = inl r
    in_middle (inr c) = absurd (differ b 58 is c.0)
from_name Rest b rest false false is p = (
  λ h. elim h [ inl m ↦ in_middle m | inr n ↦ absurd (false≢true (sym p ∙ n.0)) ],
  λ h. elim h [ inl r ↦ inl (inl r) | inr n ↦ absurd n ],
)
  where
    in_middle : MaybePort Rest (b ∷ rest) → Rest (b ∷ rest) ⊎ ⊥
    in_middle (inl r) = inl r
    in_middle (inr c) = absurd (differ b 58 is c.0)

-- a name does not go on with a bracket
bracket_apart : (Rest : List ℕ → Type 0) (b : ℕ) (rest : List ℕ)
    → b ≡ 91
    → Many is_name_byte (MaybePort Rest) (b ∷ rest)
    → Rest (b ∷ rest)
bracket_apart Rest b rest is (inl (inl r)) = r
bracket_apart Rest b rest is (inl (inr c)) = absurd (omega (arith, c.0))
bracket_apart Rest b rest is (inr n) = absurd (clash is_name_byte b 91 is no_bracket_in_name n.0)

from_maybe_empty : (Rest : List ℕ → Type 0) (b : ℕ) (rest : List ℕ) (t : Bool) (next : Option HostPlace) → (b == 91) ≡ t
    → (Many is_name_byte (MaybePort Rest) (b ∷ rest) ↔ (Rest (b ∷ rest) ⊎ next_with Rest next rest))
    → MaybeHost Rest (b ∷ rest) ↔ (Rest (b ∷ rest) ⊎ next_with Rest (if t then Some InAddress else next) rest)
from_maybe_empty Rest b rest true next is name = (
  λ h. elim h [ inl n ↦ inl (bracket_apart Rest b rest (equal b 91 is) n) | inr a ↦ inr a.1 ],
  λ h. elim h [ inl r ↦ inl (name.1 (inl r)) | inr a ↦ inr (equal b 91 is, a) ],
)
from_maybe_empty Rest b rest false next is name = (
  λ h. elim h [ inl n ↦ name.0 n | inr a ↦ absurd (differ b 91 is a.0) ],
  λ h. inl (name.1 h),
)

from_address : (Rest : List ℕ → Type 0) (b : ℕ) (rest : List ℕ) (t u : Bool)
    → (b == 93) ≡ t
    → is_address_byte b ≡ u
    → Address (MaybePort Rest) (b ∷ rest)
    ↔ next_with Rest (if t then Some Closed else (if u then Some InAddress else None)) rest
from_address Rest b rest true u is p = (
  λ h. elim h [ inl m ↦ m.1 | inr n ↦ absurd (clash is_address_byte b 93 (equal b 93 is) no_close_in_address n.0) ],
  λ r. inl (equal b 93 is, r),
)
from_address Rest b rest false true is p = (λ h. elim h [ inl m ↦ absurd (differ b 93 is m.0) | inr n ↦ n.1 ], λ r. inr (p, r))
from_address Rest b rest false false is p =
    (λ h. elim h [ inl m ↦ differ b 93 is m.0 | inr n ↦ false≢true (sym p ∙ n.0) ], λ n. absurd n)

from_colon : (Rest : List ℕ → Type 0) (b : ℕ) (rest : List ℕ) (t : Bool) → is_port_digit 0 b ≡ t
    → Digits Rest (b ∷ rest) ↔ next_with Rest (if t then Some (Port (with_digit 0 b)) else None) rest
from_colon Rest b rest true is = (λ h. h.1, λ r. (is, r))
from_colon Rest b rest false is = (λ h. false≢true (sym is ∙ h.0), λ n. absurd n)

from_port : (Rest : List ℕ → Type 0) (n b : ℕ) (rest : List ℕ) (t : Bool) → is_port_digit n b ≡ t
    → MoreDigits n Rest (b ∷ rest) ↔ (Rest (b ∷ rest) ⊎ next_with Rest (if t then Some (Port (with_digit n b)) else None) rest)
from_port Rest n b rest true is =
    (λ h. elim h [ inl r ↦ inl r | inr m ↦ inr m.1 ], λ h. elim h [ inl r ↦ inl r | inr m ↦ inr (is, m) ])
from_port Rest n b rest false is = (
  λ h. elim h [ inl r ↦ inl r | inr m ↦ absurd (false≢true (sym is ∙ m.0)) ],
  λ h. elim h [ inl r ↦ inl r | inr m ↦ absurd m ],
)

-- at a place that may end, what is behind may begin
ending : {A R N : Type 0} → (A ↔ (R ⊎ N)) → A ↔ (((true ≡ true) × R) ⊎ N)
ending e = (λ a. elim (e.0 a) [ inl r ↦ inl (refl, r) | inr n ↦ inr n ], λ s. e.1 (elim s [ inl r ↦ inl r.1 | inr n ↦ inr n ]))

going : {A R N : Type 0} → (A ↔ N) → A ↔ (((false ≡ true) × R) ⊎ N)
going e = (λ a. inr (e.0 a), λ s. elim s [ inl r ↦ absurd (false≢true r.0) | inr n ↦ e.1 n ])

pub goes_with : (Rest : List ℕ → Type 0) (place : HostPlace) (b : ℕ) (rest : List ℕ)
    → rest_with Rest place (b ∷ rest) ↔ (((may_end place ≡ true) × Rest (b ∷ rest)) ⊎ next_with Rest (place_after place b) rest)
goes_with Rest Start b rest = going (from_start Rest b rest (b == 91) (is_name_byte b) refl refl)
goes_with Rest MaybeEmpty b rest =
    ending (from_maybe_empty Rest b rest (b == 91) _ refl (from_name Rest b rest (b == 58) (is_name_byte b) refl refl))
goes_with Rest Name b rest = ending (from_name Rest b rest (b == 58) (is_name_byte b) refl refl)
goes_with Rest InAddress b rest = going (from_address Rest b rest (b == 93) (is_address_byte b) refl refl)
goes_with Rest Closed b rest = ending (from_closed Rest b rest (b == 58) refl)
goes_with Rest Colon b rest = going (from_colon Rest b rest (is_port_digit 0 b) refl)
goes_with Rest (Port n) b rest = ending (from_port Rest n b rest (is_port_digit n b) refl)

not_end : (b : ℕ) (rest : List ℕ) → ¬ End (b ∷ rest)
not_end b rest e = cc

pub goes_on : (place : HostPlace) (b : ℕ) (rest : List ℕ)
    → MatchOption (place_after place b) (¬ rest_of place (b ∷ rest)) (λ next. rest_of next rest ↔ rest_of place (b ∷ rest))
goes_on place b rest = by_next (place_after place b) (goes_with End place b rest)
  where
    by_next : (next : Option HostPlace)
        → rest_of place (b ∷ rest) ↔ (((may_end place ≡ true) × End (b ∷ rest)) ⊎ next_with End next rest)
        → MatchOption next (¬ rest_of place (b ∷ rest)) (λ place'. rest_of place' rest ↔ rest_of place (b ∷ rest))
    by_next None e = λ r. elim (e.0 r) [ inl n ↦ not_end b rest n.1 | inr n ↦ n ]
    by_next (Some next) e = (λ n. e.1 (inr n), λ r. elim (e.0 r) [ inl n ↦ absurd (not_end b rest n.1) | inr n ↦ n ])

-- a place may end exactly where what is behind may follow at once
pub ends_with : (Rest : List ℕ → Type 0) → Rest [] → (place : HostPlace) → (may_end place ≡ true) ↔ rest_with Rest place []
ends_with Rest r Start = (λ e. absurd (false≢true e), λ h. absurd (elim h [ inl n ↦ n | inr a ↦ a ]))
ends_with Rest r MaybeEmpty = (λ _. inl (inl r), λ _. refl)
ends_with Rest r Name = (λ _. inl r, λ _. refl)
ends_with Rest r InAddress = (λ e. absurd (false≢true e), λ h. absurd h)
ends_with Rest r Closed = (λ _. inl r, λ _. refl)
ends_with Rest r Colon = (λ e. absurd (false≢true e), λ h. absurd h)
ends_with Rest r (Port n) = (λ _. r, λ _. refl)

pub ends : (place : HostPlace) → (may_end place ≡ true) ↔ rest_of place []
ends place = ends_with End refl place

pub leads_with : (Rest : List ℕ → Type 0) → Rest [] → (place : HostPlace) → Begins (rest_with Rest place) []
leads_with Rest r Start = (97 ∷ [], inl (refl, inl r))
leads_with Rest r MaybeEmpty = ([], inl (inl r))
leads_with Rest r Name = ([], inl r)
leads_with Rest r InAddress = (93 ∷ [], inl (refl, inl r))
leads_with Rest r Closed = ([], inl r)
leads_with Rest r Colon = (48 ∷ [], (refl, r))
leads_with Rest r (Port n) = ([], r)

pub leads_on : (place : HostPlace) → Begins (rest_of place) []
leads_on place = leads_with End refl place
