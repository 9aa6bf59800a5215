-- The normal form of an origin has a spelling too.
use Rattle.std.proofs.Common.{◌≡◌, ℕ, ◌==◌, Bool, true, false, not, cond, List, [], ◌∷◌, ◌++◌, length, filter, refl, Option, Some, None, IfSome, unwrap_or}
use Rattle.std.specs.List.{slice_split, onto_first, join_with_byte}
use Rattle.rkt_grammar.specs.Grammar.{OnlyOf}
use Rattle.rkt_uri.specs.Origin.{Target, IsTarget, is_path_byte, is_query_byte, joined_unless_none, normalized, pieces}
use Rattle.rkt_uri.specs.declared.origin_place.Profile.{Profile}
use Rattle.rkt_uri.specs.declared.origin_place.Profile.TheVariants.{Request, Route}
use Rattle.rkt_uri.proofs.Normal.{Each}

only_append : (P : ℕ → Bool) (xs ys : List ℕ) → OnlyOf P xs → OnlyOf P ys → OnlyOf P (xs ++ ys)
only_append P [] ys front rest = rest
only_append P (x ∷ xs) ys front rest = (front.0, only_append P xs ys front.1 rest)

only_parts : (P test : ℕ → Bool) (xs : List ℕ) → OnlyOf P xs → Each (OnlyOf P) (slice_split test xs)
only_parts P test [] only = (tt, tt)
only_parts P test (x ∷ xs) only = by_test (test x) (slice_split test xs) (only_parts P test xs only.1)
  where
    by_test : (t : Bool) (parts : List (List ℕ)) → Each (OnlyOf P) parts → Each (OnlyOf P) (cond t ([] ∷ parts) (onto_first x parts))
    by_test true parts each = (tt, each)
    by_test false [] each = ((only.0, tt), tt)
    by_test false (part ∷ parts) each = ((only.0, each.0), each.1)

only_kept : (P : ℕ → Bool) (parts : List (List ℕ)) → Each (OnlyOf P) parts → Each (OnlyOf P) (filter (λ p. not (length p == 0)) parts)
only_kept P [] each = tt
only_kept P (p ∷ parts) each = by_test (not (length p == 0)) (only_kept P parts each.1)
  where
    by_test : (t : Bool) → Each (OnlyOf P) (filter (λ p. not (length p == 0)) parts)
        → Each (OnlyOf P) (cond t (p ∷ filter (λ p. not (length p == 0)) parts) (filter (λ p. not (length p == 0)) parts))
    by_test true more = (each.0, more)
    by_test false more = more

only_pieces : (P : ℕ → Bool) (c : ℕ) (text : List ℕ) → OnlyOf P text → Each (OnlyOf P) (pieces c text)
only_pieces P c text only = only_kept P (slice_split (λ b. b == c) text) (only_parts P (λ b. b == c) text only)

only_joined : (P : ℕ → Bool) (c : ℕ) (ps : List (List ℕ)) → P c ≡ true → Each (OnlyOf P) ps → OnlyOf P (join_with_byte c ps)
only_joined P c [] is each = tt
only_joined P c (p ∷ []) is each = each.0
only_joined P c (p ∷ q ∷ ps) is each = only_append P p (c ∷ join_with_byte c (q ∷ ps)) each.0 (is, only_joined P c (q ∷ ps) is each.1)

joined_query : (P : ℕ → Bool) (c : ℕ) (ps : List (List ℕ)) → P c ≡ true → Each (OnlyOf P) ps → IfSome (joined_unless_none c ps) (OnlyOf P)
joined_query P c [] is each = tt
joined_query P c (p ∷ ps) is each = only_joined P c (p ∷ ps) is each

only_query : (P : ℕ → Bool) (query : Option (List ℕ)) → IfSome query (OnlyOf P) → OnlyOf P (unwrap_or query [])
only_query P None only = tt
only_query P (Some query) only = only

slash_fits : (profile : Profile) → is_path_byte profile 47 ≡ true
slash_fits Request = refl
slash_fits Route = refl

ampersand_fits : (profile : Profile) → is_query_byte profile 38 ≡ true
ampersand_fits Request = refl
ampersand_fits Route = refl

pub normalized_fits : (profile : Profile) (target : Target) → IsTarget profile target → IsTarget profile (normalized target)
normalized_fits profile target fits = record {
  begins = (join_with_byte 47 (pieces 47 target.path), refl);
  path = (slash_fits profile, only_joined (is_path_byte profile) 47 (pieces 47 target.path) (slash_fits profile) (only_pieces (is_path_byte profile) 47 target.path fits.path));
  query = joined_query (is_query_byte profile) 38 (pieces 38 (unwrap_or target.query [])) (ampersand_fits profile)
      (only_pieces (is_query_byte profile) 38 (unwrap_or target.query []) (only_query (is_query_byte profile) target.query fits.query));
}
