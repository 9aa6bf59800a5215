-- What may follow in an absolute URI, byte by byte.
use Rattle.std.proofs.Common.{◌≡◌, ℕ, List, [], ◌∷◌, Bool, true, false, ◌==◌, if◌then◌else◌, refl, ◌⊎◌, inl, inr, ◌↔◌, Option, Some, None, MatchOption, sym, ◌∙◌, ap, arith, ◌++◌}
use Rattle.std.specs.Option.{option_map}
use Rattle.std.proofs.lemmas.Bool.{false≢true}
use Rattle.std.specs.Char.{is_ascii_alphabetic}
use Rattle.rkt_grammar.specs.Grammar.{Begins, OnlyOf, IsFrontOf}
use Rattle.rkt_grammar.specs.ByteLaws.{equal, differ, clash}
use Rattle.rkt_uri.specs.Origin.{is_path_byte}
use Rattle.rkt_uri.specs.OriginPlaces as origin
use Rattle.rkt_uri.specs.OriginPlaceLaws as origin_law
use Rattle.rkt_uri.specs.HostPlaces as host
use Rattle.rkt_uri.specs.HostPlaces.{rest_with, next_with}
use Rattle.rkt_uri.specs.HostPlaceLaws.{goes_with, ends_with, leads_with}
use Rattle.rkt_uri.specs.Absolute.{is_scheme_byte, is_user_byte, MaybeOrigin, IsHierarchy, SchemeRest, AbsoluteForm}
use Rattle.rkt_uri.specs.declared.origin_place.Profile.TheVariants.{Request}
use Rattle.rkt_uri.specs.declared.origin_place.OriginPlace.{OriginPlace}
use Rattle.rkt_uri.specs.declared.origin_place.OriginPlace.TheVariants.{InPath, InQuery}
use Rattle.rkt_uri.specs.declared.host_place.HostPlace.{HostPlace}
use Rattle.rkt_uri.specs.declared.host_place.HostPlace.TheVariants.{Start as HostStart, MaybeEmpty, Name, Address, Closed, Colon, Port}
use Rattle.rkt_uri.specs.declared.absolute_place.AbsolutePlace.{AbsolutePlace}
use Rattle.rkt_uri.specs.declared.absolute_place.AbsolutePlace.TheVariants.{Start, Scheme, Hierarchy, Slash, Path, Front, User, Host, Origin}
use Rattle.rkt_uri.specs.AbsolutePlaces.{tail_after, host_after, front_after, place_after, may_end, UserRest, rest_of, next_of}

head_same : (a b : ℕ) (xs ys : List ℕ) → a ∷ xs ≡ b ∷ ys → a ≡ b
head_same a b xs ys e = cc

tail_same : (a b : ℕ) (xs ys : List ℕ) → a ∷ xs ≡ b ∷ ys → xs ≡ ys
tail_same a b xs ys e = cc

from_start : (b : ℕ) (rest : List ℕ) (t : Bool)
    → is_ascii_alphabetic b ≡ t
    → AbsoluteForm (b ∷ rest) ↔ next_of (if t then Some Scheme else None) rest
from_start b rest true is = (λ h. h.1, λ r. (is, r))
from_start b rest false is = (λ h. false≢true (sym is ∙ h.0), λ n. absurd n)

no_colon_in_scheme : is_scheme_byte 58 ≡ false
no_colon_in_scheme = refl

from_scheme : (b : ℕ) (rest : List ℕ) (t u : Bool) → (b == 58) ≡ t → is_scheme_byte b ≡ u
    → SchemeRest (b ∷ rest) ↔ next_of (if t then Some Hierarchy else (if u then Some Scheme else None)) rest
from_scheme b rest true u is p = (
  λ h. elim h [ inl c ↦ c.1 | inr n ↦ absurd (clash is_scheme_byte b 58 (equal b 58 is) no_colon_in_scheme n.0) ],
  λ r. inl (equal b 58 is, r),
)
from_scheme b rest false true is p = (λ h. elim h [ inl c ↦ absurd (differ b 58 is c.0) | inr n ↦ n.1 ], λ r. inr (p, r))
from_scheme b rest false false is p =
    (λ h. elim h [ inl c ↦ differ b 58 is c.0 | inr n ↦ false≢true (sym p ∙ n.0) ], λ n. absurd n)

slash_in_path : is_path_byte Request 47 ≡ true
slash_in_path = refl

from_hierarchy : (b : ℕ) (rest : List ℕ) (t u : Bool) → (b == 47) ≡ t → is_path_byte Request b ≡ u
    → IsHierarchy (b ∷ rest) ↔ next_of (if t then Some Slash else (if u then Some Path else None)) rest
from_hierarchy b rest true u is p = (
  λ h. elim h [ inl l ↦ inl l.1 | inr o ↦ inr (o.0.1, λ f. o.1 (f.0, slashes b rest f.0 (equal b 47 is) f.1)) ],
  λ h. elim h [
    | inl l ↦ inl (equal b 47 is, l)
    | inr o ↦ inr ((ap (is_path_byte Request) (equal b 47 is) ∙ slash_in_path, o.0), λ f. o.1 (f.0, tail_same _ _ _ _ f.1))
  ],
)
  where
    slashes : (b : ℕ) (rest more : List ℕ) → b ≡ 47 → rest ≡ 47 ∷ more → b ∷ rest ≡ 47 ∷ 47 ∷ more
    slashes b rest more is e = cc
from_hierarchy b rest false true is p = (
  λ h. elim h [ inl l ↦ absurd (differ b 47 is l.0) | inr o ↦ o.0.1 ],
  λ r. inr ((p, r), λ f. differ b 47 is (head_same _ _ _ _ f.1)),
)
from_hierarchy b rest false false is p =
    (λ h. elim h [ inl l ↦ differ b 47 is l.0 | inr o ↦ false≢true (sym p ∙ o.0.0) ], λ n. absurd n)

from_slash : (b : ℕ) (rest : List ℕ) (t u : Bool) → (b == 47) ≡ t → is_path_byte Request b ≡ u
    → rest_of Slash (b ∷ rest) ↔ next_of (if t then Some (Front MaybeEmpty) else (if u then Some Path else None)) rest
from_slash b rest true u is p = (
  λ h. elim h [ inl l ↦ l.1 | inr o ↦ absurd (o.1 (rest, ap (λ (c : ℕ). c ∷ rest) (equal b 47 is))) ],
  λ l. inl (equal b 47 is, l),
)
from_slash b rest false true is p = (
  λ h. elim h [ inl l ↦ absurd (differ b 47 is l.0) | inr o ↦ o.0.1 ],
  λ r. inr ((p, r), λ f. differ b 47 is (head_same _ _ _ _ f.1)),
)
from_slash b rest false false is p =
    (λ h. elim h [ inl l ↦ differ b 47 is l.0 | inr o ↦ false≢true (sym p ∙ o.0.0) ], λ n. absurd n)

from_path : (b : ℕ) (rest : List ℕ) (u : Bool) → is_path_byte Request b ≡ u
    → OnlyOf (is_path_byte Request) (b ∷ rest) ↔ next_of (if u then Some Path else None) rest
from_path b rest true p = (λ h. h.1, λ r. (p, r))
from_path b rest false p = (λ h. false≢true (sym p ∙ h.0), λ n. absurd n)

from_tail : (b : ℕ) (rest : List ℕ) (t u : Bool)
    → (b == 47) ≡ t
    → (b == 63) ≡ u
    → MaybeOrigin (b ∷ rest)
    ↔ next_of (if t then Some (Origin (InPath Request)) else (if u then Some (Origin (InQuery Request)) else None)) rest
from_tail b rest true u is p = (behind, λ r. inr (inl ((origin_law.from_start Request b rest true is).0 r)))
  where
    behind : MaybeOrigin (b ∷ rest) → origin.rest_of (InPath Request) rest
    behind (inl e) = absurd (cc e)
    behind (inr (inl o)) = (origin_law.from_start Request b rest true is).1 o
    behind (inr (inr q)) = absurd (omega (arith, equal b 47 is, q.0))
from_tail b rest false true is p = (behind, λ r. inr (inr (equal b 63 p, r)))
  where
    behind : MaybeOrigin (b ∷ rest) → origin.rest_of (InQuery Request) rest
    behind (inl e) = absurd (cc e)
    behind (inr (inl o)) = absurd (origin_law.from_start Request b rest false is o)
    behind (inr (inr q)) = q.1
from_tail b rest false false is p = (behind, λ n. absurd n)
  where
    behind : MaybeOrigin (b ∷ rest) → ⊥
    behind (inl e) = cc e
    behind (inr (inl o)) = origin_law.from_start Request b rest false is o
    behind (inr (inr q)) = differ b 63 p q.0

-- a slash or a question mark begins what is behind a host
begins_tail : (b : ℕ) (rest : List ℕ) (t u : Bool)
    → (b == 47) ≡ t
    → (b == 63) ≡ u
    → MaybeOrigin (b ∷ rest)
    → (b ≡ 47) ⊎ (b ≡ 63)
begins_tail b rest true u is p m = inl (equal b 47 is)
begins_tail b rest false true is p m = inr (equal b 63 p)
begins_tail b rest false false is p m = absurd ((from_tail b rest false false is p).0 m)

-- and no host, port or user part goes on with one
no_slash_in_host : (place : HostPlace) → host.place_after place 47 ≡ None
no_slash_in_host HostStart = refl
no_slash_in_host MaybeEmpty = refl
no_slash_in_host Name = refl
no_slash_in_host Address = refl
no_slash_in_host Closed = refl
no_slash_in_host Colon = refl
no_slash_in_host (Port n) = refl

no_question_in_host : (place : HostPlace) → host.place_after place 63 ≡ None
no_question_in_host HostStart = refl
no_question_in_host MaybeEmpty = refl
no_question_in_host Name = refl
no_question_in_host Address = refl
no_question_in_host Closed = refl
no_question_in_host Colon = refl
no_question_in_host (Port n) = refl

no_at_in_host : (place : HostPlace) → host.place_after place 64 ≡ None
no_at_in_host HostStart = refl
no_at_in_host MaybeEmpty = refl
no_at_in_host Name = refl
no_at_in_host Address = refl
no_at_in_host Closed = refl
no_at_in_host Colon = refl
no_at_in_host (Port n) = refl

no_slash_in_user : is_user_byte 47 ≡ false
no_slash_in_user = refl

no_question_in_user : is_user_byte 63 ≡ false
no_question_in_user = refl

no_at_in_user : is_user_byte 64 ≡ false
no_at_in_user = refl

-- a place that goes on at this byte is none at which the host ends
stays_in_host : (place : HostPlace) (b : ℕ) (rest : List ℕ) (next : HostPlace)
    → host.place_after place b ≡ Some next
    → ¬ MaybeOrigin (b ∷ rest)
stays_in_host place b rest next is m =
    elim (begins_tail b rest (b == 47) (b == 63) refl refl m) [
      | inl e ↦ no_next (sym is ∙ ap (host.place_after place) e ∙ no_slash_in_host place)
      | inr e ↦ no_next (sym is ∙ ap (host.place_after place) e ∙ no_question_in_host place)
    ]
  where
    no_next : ¬ (Some next ≡ None)
    no_next e = cc e

stays_in_user : (b : ℕ) (rest : List ℕ) → is_user_byte b ≡ true → ¬ MaybeOrigin (b ∷ rest)
stays_in_user b rest is m =
    elim (begins_tail b rest (b == 47) (b == 63) refl refl m) [
      | inl e ↦ clash is_user_byte b 47 e no_slash_in_user is
      | inr e ↦ clash is_user_byte b 63 e no_question_in_user is
    ]

-- what a place of a host says at a byte
abbrev Steps : HostPlace → Bool → Option HostPlace → ℕ → List ℕ → Type 0
Steps place ends next b rest =
    rest_with MaybeOrigin place (b ∷ rest) ↔ (((ends ≡ true) × MaybeOrigin (b ∷ rest)) ⊎ next_with MaybeOrigin next rest)

from_host : (place : HostPlace) (b : ℕ) (rest : List ℕ) (next : Option HostPlace) (ends : Bool)
    → host.place_after place b ≡ next
    → Steps place ends next b rest
    → rest_with MaybeOrigin place (b ∷ rest) ↔ next_of (host_after next ends b) rest
from_host place b rest (Some next) ends is s = (
  λ h. elim (s.0 h) [ inl m ↦ absurd (stays_in_host place b rest next is m.1) | inr n ↦ n ],
  λ n. s.1 (inr n),
)
from_host place b rest None false is s = (λ h. elim (s.0 h) [ inl m ↦ false≢true m.0 | inr n ↦ n ], λ n. absurd n)
from_host place b rest None true is s = let tail = from_tail b rest (b == 47) (b == 63) refl refl in (
  λ h. elim (s.0 h) [ inl m ↦ tail.0 m.1 | inr n ↦ absurd n ],
  λ n. s.1 (inl (refl, tail.1 n)),
)

from_user : (b : ℕ) (rest : List ℕ) (t u : Bool) → (b == 64) ≡ t → is_user_byte b ≡ u
    → UserRest (b ∷ rest) ↔ next_of (if t then Some (Host MaybeEmpty) else (if u then Some User else None)) rest
from_user b rest true u is p = (
  λ h. elim h [ inl a ↦ a.1 | inr n ↦ absurd (clash is_user_byte b 64 (equal b 64 is) no_at_in_user n.0) ],
  λ r. inl (equal b 64 is, r),
)
from_user b rest false true is p = (λ h. elim h [ inl a ↦ absurd (differ b 64 is a.0) | inr n ↦ n.1 ], λ r. inr (p, r))
from_user b rest false false is p =
    (λ h. elim h [ inl a ↦ differ b 64 is a.0 | inr n ↦ false≢true (sym p ∙ n.0) ], λ n. absurd n)

-- a byte of a user part goes on in it
user_on : (b : ℕ) (rest : List ℕ) → is_user_byte b ≡ true → UserRest (b ∷ rest) → UserRest rest
user_on b rest p (inl a) = absurd (clash is_user_byte b 64 a.0 no_at_in_user p)
user_on b rest p (inr n) = n.1

front_goes : (place : HostPlace) (b : ℕ) (rest : List ℕ) (next : HostPlace) (ends u : Bool)
    → host.place_after place b ≡ Some next
    → is_user_byte b ≡ u
    → Steps place ends (Some next) b rest
    → rest_of (Front place) (b ∷ rest) ↔ next_of (if u then Some (Front next) else Some (Host next)) rest
front_goes place b rest next ends true is p s = (
  λ h. elim h [ inl a ↦ inl ((from_host place b rest (Some next) ends is s).0 a) | inr m ↦ inr (user_on b rest p m) ],
  λ h. elim h [ inl n ↦ inl (s.1 (inr n)) | inr n ↦ inr (inr (p, n)) ],
)
front_goes place b rest next ends false is p s = (
  λ h. elim h [ inl a ↦ (from_host place b rest (Some next) ends is s).0 a | inr m ↦ absurd (no_user m) ],
  λ n. inl (s.1 (inr n)),
)
  where
    no_next : ¬ (Some next ≡ None)
    no_next e = cc e

    no_user : ¬ UserRest (b ∷ rest)
    no_user (inl a) = no_next (sym is ∙ ap (host.place_after place) a.0 ∙ no_at_in_host place)
    no_user (inr n) = false≢true (sym p ∙ n.0)

front_stops : (place : HostPlace) (b : ℕ) (rest : List ℕ) (ends t u : Bool)
    → host.place_after place b ≡ None
    → (b == 64) ≡ t
    → is_user_byte b ≡ u
    → Steps place ends None b rest
    → rest_of (Front place) (b ∷ rest)
    ↔ next_of (if u then Some User else (if t then Some (Host MaybeEmpty) else (if ends then tail_after b else None))) rest
front_stops place b rest ends t true is at p s = (
  λ h. elim h [ inl a ↦ absurd (no_host (s.0 a)) | inr m ↦ user_on b rest p m ],
  λ n. inr (inr (p, n)),
)
  where
    no_host : ¬ (((ends ≡ true) × MaybeOrigin (b ∷ rest)) ⊎ ⊥)
    no_host (inl m) = stays_in_user b rest p m.1
    no_host (inr n) = n
front_stops place b rest ends true false is at p s = (
  λ h. elim h [ inl a ↦ absurd (no_host (s.0 a)) | inr m ↦ (from_user b rest true false at p).0 m ],
  λ n. inr ((from_user b rest true false at p).1 n),
)
  where
    no_tail : ¬ ((b ≡ 47) ⊎ (b ≡ 63))
    no_tail (inl e) = omega (arith, equal b 64 at)
    no_tail (inr e) = omega (arith, equal b 64 at)

    no_host : ¬ (((ends ≡ true) × MaybeOrigin (b ∷ rest)) ⊎ ⊥)
    no_host (inl m) = no_tail (begins_tail b rest (b == 47) (b == 63) refl refl m.1)
    no_host (inr n) = n
front_stops place b rest ends false false is at p s = let rests = from_host place b rest None ends is s in (
  λ h. elim h [ inl a ↦ rests.0 a | inr m ↦ absurd ((from_user b rest false false at p).0 m) ],
  λ n. inl (rests.1 n),
)

from_front : (place : HostPlace) (b : ℕ) (rest : List ℕ) (next : Option HostPlace) (ends : Bool)
    → host.place_after place b ≡ next
    → Steps place ends next b rest
    → rest_of (Front place) (b ∷ rest) ↔ next_of (front_after next ends b) rest
from_front place b rest (Some next) ends is s = front_goes place b rest next ends (is_user_byte b) is refl s
from_front place b rest None ends is s = front_stops place b rest ends (b == 64) (is_user_byte b) is refl refl s

from_origin : (A : Type 0) (rest : List ℕ) (next : Option OriginPlace)
    → MatchOption next (¬ A) (λ place. origin.rest_of place rest ↔ A)
    → A ↔ next_of (option_map Origin next) rest
from_origin A rest None none = (none, λ n. absurd n)
from_origin A rest (Some next) e = (e.1, e.0)

steps : (place : AbsolutePlace) (b : ℕ) (rest : List ℕ) → rest_of place (b ∷ rest) ↔ next_of (place_after place b) rest
steps Start b rest = from_start b rest (is_ascii_alphabetic b) refl
steps Scheme b rest = from_scheme b rest (b == 58) (is_scheme_byte b) refl refl
steps Hierarchy b rest = from_hierarchy b rest (b == 47) (is_path_byte Request b) refl refl
steps Slash b rest = from_slash b rest (b == 47) (is_path_byte Request b) refl refl
steps Path b rest = from_path b rest (is_path_byte Request b) refl
steps (Front place) b rest =
    from_front place b rest (host.place_after place b) (host.may_end place) refl (goes_with MaybeOrigin place b rest)
steps User b rest = from_user b rest (b == 64) (is_user_byte b) refl refl
steps (Host place) b rest =
    from_host place b rest (host.place_after place b) (host.may_end place) refl (goes_with MaybeOrigin place b rest)
steps (Origin place) b rest = from_origin _ rest (origin.place_after place b) (origin_law.goes_on place b rest)

pub goes_on : (place : AbsolutePlace) (b : ℕ) (rest : List ℕ)
    → MatchOption (place_after place b) (¬ rest_of place (b ∷ rest)) (λ next. rest_of next rest ↔ rest_of place (b ∷ rest))
goes_on place b rest = by_next (place_after place b) (steps place b rest)
  where
    by_next : (next : Option AbsolutePlace) → rest_of place (b ∷ rest) ↔ next_of next rest
        → MatchOption next (¬ rest_of place (b ∷ rest)) (λ place'. rest_of place' rest ↔ rest_of place (b ∷ rest))
    by_next None e = e.0
    by_next (Some next) e = (e.1, e.0)

no_front : (b : ℕ) (front : List ℕ) → ¬ IsFrontOf (b ∷ front) []
no_front b front f = let e : [] ≡ b ∷ (front ++ f.0) = f.1 in cc e

pub ends : (place : AbsolutePlace) → (may_end place ≡ true) ↔ rest_of place []
ends Start = (λ e. absurd (false≢true e), λ h. absurd h)
ends Scheme = (λ e. absurd (false≢true e), λ h. absurd h)
ends Hierarchy = (λ _. inr (tt, no_front 47 (47 ∷ [])), λ _. refl)
ends Slash = (λ _. inr (tt, no_front 47 []), λ _. refl)
ends Path = (λ _. tt, λ _. refl)
ends (Front place) =
    let here = ends_with MaybeOrigin (inl refl) place in
    (λ e. inl (here.0 e), λ h. elim h [ inl r ↦ here.1 r | inr n ↦ absurd n ])
ends User = (λ e. absurd (false≢true e), λ h. absurd h)
ends (Host place) = ends_with MaybeOrigin (inl refl) place
ends (Origin place) = origin_law.ends place

pub leads_on : (place : AbsolutePlace) → Begins (rest_of place) []
leads_on Start = (97 ∷ 58 ∷ [], (refl, inl (refl, (ends Hierarchy).0 refl)))
leads_on Scheme = (58 ∷ [], inl (refl, (ends Hierarchy).0 refl))
leads_on Hierarchy = ([], (ends Hierarchy).0 refl)
leads_on Slash = ([], (ends Slash).0 refl)
leads_on Path = ([], tt)
leads_on (Front place) = let more = leads_with MaybeOrigin (inl refl) place in (more.0, inl more.1)
leads_on User = (64 ∷ [], inl (refl, inl (inl (inl refl))))
leads_on (Host place) = leads_with MaybeOrigin (inl refl) place
leads_on (Origin place) = origin_law.leads_on place
