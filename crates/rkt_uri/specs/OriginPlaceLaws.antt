-- What may follow in an origin, byte by byte.
use Rattle.std.proofs.Common.{◌≡◌, ℕ, List, [], ◌∷◌, ◌++◌, Bool, true, false, ◌==◌, if◌then◌else◌, refl, inl, inr, ◌⊎◌, ◌↔◌, Option, Some, None, MatchOption, IfSome, sym, ◌∙◌, ap, subst}
use Rattle.std.proofs.lemmas.Bool.{false≢true}
use Rattle.rkt_grammar.specs.Grammar.{Begins, OnlyOf}
use Rattle.rkt_grammar.specs.ByteLaws.{equal, differ}
use Rattle.rkt_uri.specs.Origin.{is_path_byte, is_query_byte, query_text, IsOrigin, IsPathRest}
use Rattle.rkt_uri.specs.declared.origin_place.Profile.{Profile}
use Rattle.rkt_uri.specs.declared.origin_place.Profile.TheVariants.{Request, Route}
use Rattle.rkt_uri.specs.declared.origin_place.OriginPlace.{OriginPlace}
use Rattle.rkt_uri.specs.declared.origin_place.OriginPlace.TheVariants.{Start, InPath, InQuery}
use Rattle.rkt_uri.specs.OriginPlaces.{place_after, may_end, rest_of}

head_same : (a b : ℕ) (xs ys : List ℕ) → a ∷ xs ≡ b ∷ ys → a ≡ b
head_same a b xs ys e = cc

tail_same : (a b : ℕ) (xs ys : List ℕ) → a ∷ xs ≡ b ∷ ys → xs ≡ ys
tail_same a b xs ys e = cc

slash_in_path : (profile : Profile) → is_path_byte profile 47 ≡ true
slash_in_path Request = refl
slash_in_path Route = refl

pub no_question_in_path : (profile : Profile) → is_path_byte profile 63 ≡ false
no_question_in_path Request = refl
no_question_in_path Route = refl

-- behind the slash
opened : (profile : Profile) (b : ℕ) (rest : List ℕ) → b ≡ 47 → IsPathRest profile rest → IsOrigin profile (b ∷ rest)
opened profile b rest is r = (
  record { path = b ∷ r.path; query = r.query },
  record {
    fits = record {
      begins = (r.path, ap (λ (c : ℕ). c ∷ r.path) is);
      path = (ap (is_path_byte profile) is ∙ slash_in_path profile, r.of_path);
      query = r.of_query;
    };
    spelled = ap (λ (cs : List ℕ). b ∷ cs) r.spelled;
  },
)

-- the text of an origin begins with the slash of its path
with_slash : (profile : Profile) (text : List ℕ)
    → (o : IsOrigin profile text)
    → text ≡ 47 ∷ (o.1.fits.begins.0 ++ query_text o.0.query)
with_slash profile text o = o.1.spelled ∙ ap (λ (p : List ℕ). p ++ query_text o.0.query) o.1.fits.begins.1

behind_slash : (profile : Profile) (b : ℕ) (rest : List ℕ) → IsOrigin profile (b ∷ rest) → IsPathRest profile rest
behind_slash profile b rest o = record {
  path = o.1.fits.begins.0;
  query = o.0.query;
  of_path = (subst (OnlyOf (is_path_byte profile)) o.1.fits.begins.1 o.1.fits.path).1;
  of_query = o.1.fits.query;
  spelled = tail_same _ _ _ _ (with_slash profile _ o);
}

pub from_start : (profile : Profile) (b : ℕ) (rest : List ℕ) (t : Bool)
    → (b == 47) ≡ t
    → MatchOption (if t then Some (InPath profile) else None) (¬ IsOrigin profile (b ∷ rest)) (λ next.
    rest_of next rest ↔ IsOrigin profile (b ∷ rest))
from_start profile b rest true is = (opened profile b rest (equal b 47 is), behind_slash profile b rest)
from_start profile b rest false is = λ o. differ b 47 is (head_same _ _ _ _ (with_slash profile _ o))

-- the rest of a path begins with more of the path, or is a query
in_path : (profile : Profile) (b : ℕ) (rest path : List ℕ) (query : Option (List ℕ))
    → OnlyOf (is_path_byte profile) path
    → IfSome query (OnlyOf (is_query_byte profile))
    → b ∷ rest ≡ path ++ query_text query
    → ((b ≡ 63) × OnlyOf (is_query_byte profile) rest) ⊎ ((is_path_byte profile b ≡ true) × IsPathRest profile rest)
in_path profile b rest [] None of_path of_query e = absurd (cc e)
in_path profile b rest [] (Some query) of_path of_query e =
    inl (head_same _ _ _ _ e, subst (OnlyOf (is_query_byte profile)) (sym (tail_same _ _ _ _ e)) of_query)
in_path profile b rest (c ∷ path) query of_path of_query e =
    inr (
      ap (is_path_byte profile) (head_same _ _ _ _ e) ∙ of_path.0,
      record { path = path; query = query; of_path = of_path.1; of_query = of_query; spelled = tail_same _ _ _ _ e },
    )

asked : (profile : Profile) (b : ℕ) (rest : List ℕ)
    → b ≡ 63
    → OnlyOf (is_query_byte profile) rest
    → IsPathRest profile (b ∷ rest)
asked profile b rest is q =
    record { path = []; query = Some rest; of_path = tt; of_query = q; spelled = ap (λ (c : ℕ). c ∷ rest) is }

grown : (profile : Profile) (b : ℕ) (rest : List ℕ)
    → is_path_byte profile b ≡ true
    → IsPathRest profile rest
    → IsPathRest profile (b ∷ rest)
grown profile b rest is r = record {
  path = b ∷ r.path;
  query = r.query;
  of_path = (is, r.of_path);
  of_query = r.of_query;
  spelled = ap (λ (cs : List ℕ). b ∷ cs) r.spelled;
}

from_path : (profile : Profile) (b : ℕ) (rest : List ℕ) (t u : Bool)
    → (b == 63) ≡ t
    → is_path_byte profile b ≡ u
    → MatchOption (if t then Some (InQuery profile) else (if u then Some (InPath profile) else None))
    (¬ IsPathRest profile (b ∷ rest)) (λ next. rest_of next rest ↔ IsPathRest profile (b ∷ rest))
from_path profile b rest true u is p = (
  asked profile b rest (equal b 63 is),
  λ r. elim (in_path profile b rest r.path r.query r.of_path r.of_query r.spelled) [
    | inl q ↦ q.1
    | inr more ↦ absurd (false≢true (sym (ap (is_path_byte profile) (equal b 63 is) ∙ no_question_in_path profile) ∙ more.0))
  ],
)
from_path profile b rest false true is p = (
  grown profile b rest p,
  λ r.
      elim (in_path profile b rest r.path r.query r.of_path r.of_query r.spelled) [
        | inl q ↦ absurd (differ b 63 is q.0)
        | inr more ↦ more.1
      ],
)
from_path profile b rest false false is p = λ r.
    elim (in_path profile b rest r.path r.query r.of_path r.of_query r.spelled) [
      | inl q ↦ differ b 63 is q.0
      | inr more ↦ false≢true (sym p ∙ more.0)
    ]

from_query : (profile : Profile) (b : ℕ) (rest : List ℕ) (t : Bool)
    → is_query_byte profile b ≡ t
    → MatchOption (if t then Some (InQuery profile) else None) (¬ OnlyOf (is_query_byte profile) (b ∷ rest)) (λ next.
    rest_of next rest ↔ OnlyOf (is_query_byte profile) (b ∷ rest))
from_query profile b rest true is = (λ r. (is, r), λ r. r.1)
from_query profile b rest false is = λ r. false≢true (sym is ∙ r.0)

pub ends : (place : OriginPlace) → (may_end place ≡ true) ↔ rest_of place []
ends (Start profile) = (
  λ e. absurd (false≢true e),
  λ o. absurd (let e : [] ≡ 47 ∷ (o.1.fits.begins.0 ++ query_text o.0.query) = with_slash profile [] o in cc e),
)
ends (InPath profile) = (λ _. record { path = []; query = None; of_path = tt; of_query = tt; spelled = refl }, λ _. refl)
ends (InQuery profile) = (λ _. tt, λ _. refl)

pub goes_on : (place : OriginPlace) (b : ℕ) (rest : List ℕ)
    → MatchOption (place_after place b) (¬ rest_of place (b ∷ rest)) (λ next. rest_of next rest ↔ rest_of place (b ∷ rest))
goes_on (Start profile) b rest = from_start profile b rest (b == 47) refl
goes_on (InPath profile) b rest = from_path profile b rest (b == 63) (is_path_byte profile b) refl refl
goes_on (InQuery profile) b rest = from_query profile b rest (is_query_byte profile b) refl

pub leads_on : (place : OriginPlace) → Begins (rest_of place) []
leads_on (Start profile) = (47 ∷ [], opened profile 47 [] refl ((ends (InPath profile)).0 refl))
leads_on (InPath profile) = ([], (ends (InPath profile)).0 refl)
leads_on (InQuery profile) = ([], tt)
