-- What is tried one after another, as a list.
use Rattle.std.proofs.Common.{◌≡◌, ◌↔◌, ◌<◌, ℕ, zero, suc, List, [], ◌∷◌, Option, Some, None, ◌⊎◌, inl, inr, arith, sym, ap, ◌∙◌, refl, subst, length, get_or}
use Rattle.std.specs.List.{AllPairs, IsAmong}
use Rattle.std.proofs.lemmas.List.{get_or_default}
use Rattle.std.proofs.lemmas.List.Kept.{AllPairs-cons}
use Rattle.rkt_grammar.specs.Grammar.{IsFrontOf}
use Rattle.rkt_request.specs.Seen.{Seen}
use Rattle.rkt_route.proofs.Among.{among_first, among_later, among_none, not_first}
use Rattle.rkt_route.specs.declared.route.Route.{Route}
use Rattle.rkt_router.proofs.OneList.{behind_first, first_or, heads, ordered_rest}
use Rattle.rkt_router.proofs.Orders.{before_not_same, before_trans}
use Rattle.rkt_router.specs.Tries.{AllNextTries, Before, Behind, IsNextTry, IsTries, MatchesAt, NextTries}

-- the positions that match behind a position, or all of them, in order
record Rest {H S V : Type 0} (routes : List (Route H S)) (request : Seen V) (after : Option ℕ) (tries : List ℕ) : Type 0 where
  matching : (q : ℕ) → IsAmong tries q ↔ (MatchesAt routes request q × Behind routes after q)
  ordered : AllPairs (Before routes) tries

module _ {H S V : Type 0} (routes : List (Route H S)) (request : Seen V) where
  behind_trans : (after : Option ℕ) (p q : ℕ) → Behind routes after p → Before routes p q → Behind routes after q
  behind_trans None p q behind before = tt
  behind_trans (Some a) p q behind before = before_trans routes a p q behind before

  -- a position, and what is tried behind it
  module _ (after : Option ℕ) (p : ℕ) (tries : List ℕ) where
    sound : IsNextTry routes request after (Some p) → Rest routes request (Some p) tries → (q i : ℕ) → i < length (p ∷ tries) → q ≡ get_or (p ∷ tries) i q
        → MatchesAt routes request q × Behind routes after q
    sound next rest q zero within is = (subst (MatchesAt routes request) (sym is) next.0, subst (Behind routes after) (sym is) next.1)
    sound next rest q (suc i) within is =
        let behind = (rest.matching q).0 (i, (omega (arith, within), is)) in (behind.0, behind_trans after p q next.1 behind.1)

    complete : Rest routes request (Some p) tries → (q : ℕ) → MatchesAt routes request q → (p ≡ q) ⊎ Before routes p q → IsAmong (p ∷ tries) q
    complete rest q matching (inl same) = subst (IsAmong (p ∷ tries)) same (among_first p tries)
    complete rest q matching (inr before) = among_later p q tries ((rest.matching q).1 (matching, before))

    rest_cons : IsNextTry routes request after (Some p) → Rest routes request (Some p) tries → Rest routes request after (p ∷ tries)
    rest_cons next rest = record {
      matching = λ q. (λ among. sound next rest q among.0 among.1.0 among.1.1, λ is. complete rest q is.0 (next.2 q is.0 is.1));
      ordered = AllPairs-cons (Before routes) p tries
          (λ k d within. ((rest.matching (get_or tries k d)).0 (k, (within, get_or_default tries k d (get_or tries k d) within))).1)
          rest.ordered;
    }

    here : Rest routes request after (p ∷ tries) → MatchesAt routes request p × Behind routes after p
    here rest = (rest.matching p).0 (among_first p tries)

    later : (q : ℕ) → (q ≡ p) ⊎ Before routes p q → (p ≡ q) ⊎ Before routes p q
    later q (inl same) = inl (sym same)
    later q (inr before) = inr before

    is_next : Rest routes request after (p ∷ tries) → IsNextTry routes request after (Some p)
    is_next rest = (
      (here rest).0,
      (here rest).1,
      λ q matching behind. let among = (rest.matching q).1 (matching, behind) in later q (first_or routes p q tries rest.ordered among.0 among.1.0 among.1.1),
    )

    is_behind : Rest routes request after (p ∷ tries) → (q : ℕ) → IsAmong tries q → MatchesAt routes request q × Before routes p q
    is_behind rest q among = (((rest.matching q).0 (among_later p q tries among)).0, behind_first routes p q tries rest.ordered among)

    is_among : Rest routes request after (p ∷ tries) → (q : ℕ) → MatchesAt routes request q → Before routes p q → IsAmong tries q
    is_among rest q matching before =
        let among = (rest.matching q).1 (matching, behind_trans after p q (here rest).1 before) in
        not_first p q tries (λ same. before_not_same routes p (subst (Before routes p) same before)) among.0 among.1.0 among.1.1

    rest_tail : Rest routes request after (p ∷ tries) → Rest routes request (Some p) tries
    rest_tail rest = record { matching = λ q. (λ among. is_behind rest q among, λ is. is_among rest q is.0 is.1); ordered = ordered_rest routes p tries rest.ordered }

  rest_of : (after : Option ℕ) (tries : List ℕ) → AllNextTries routes request after tries → Rest routes request after tries
  rest_of after [] none = record {
    matching = λ q. (λ among. absurd (among_none q among), λ is. absurd (none q is.0 is.1));
    ordered = λ i j d less within. absurd (omega (arith, within));
  }
  rest_of after (p ∷ tries) all = rest_cons after p tries all.0 (rest_of (Some p) tries all.1)

  nexts_of : (after : Option ℕ) (tries : List ℕ) → Rest routes request after tries → AllNextTries routes request after tries
  nexts_of after [] rest = λ q matching behind. among_none q ((rest.matching q).1 (matching, behind))
  nexts_of after (p ∷ tries) rest = (is_next after p tries rest, nexts_of (Some p) tries (rest_tail after p tries rest))

  -- of two that are tried next, both are one
  one_next : (after : Option ℕ) (p q : ℕ) → IsNextTry routes request after (Some p) → IsNextTry routes request after (Some q) → p ≡ q
  one_next after p q one other = heads routes p q (turned (other.2 p one.0 one.1)) (turned' (one.2 q other.0 other.1))
    where
      turned : (q ≡ p) ⊎ Before routes q p → (p ≡ q) ⊎ Before routes q p
      turned (inl same) = inl (sym same)
      turned (inr before) = inr before

      turned' : (p ≡ q) ⊎ Before routes p q → (q ≡ p) ⊎ Before routes p q
      turned' (inl same) = inl (sym same)
      turned' (inr before) = inr before

  front_of : (after : Option ℕ) (front tries : List ℕ) → NextTries routes request after front → AllNextTries routes request after tries → IsFrontOf front tries
  front_of after [] tries some all = (tries, refl)
  front_of after (p ∷ front) [] some none = absurd (none p some.0.0 some.0.1)
  front_of after (p ∷ front) (q ∷ tries) some all =
      let same : q ≡ p = one_next after q p all.0 some.0 in
      let rest = front_of (Some p) front tries some.1 (subst (λ (q : ℕ). AllNextTries routes request (Some q) tries) same all.1) in
      (rest.0, ap (λ (q : ℕ). q ∷ tries) same ∙ ap (λ (xs : List ℕ). p ∷ xs) rest.1)

  -- what is tried one after another, until nothing is, are the tries
  pub nexts_are_tries : (tries : List ℕ) → AllNextTries routes request None tries ↔ IsTries routes request tries
  nexts_are_tries tries = (
    λ all. let rest = rest_of None tries all in record { matching = λ q. (λ among. ((rest.matching q).0 among).0, λ matching. (rest.matching q).1 (matching, tt)); ordered = rest.ordered },
    λ is. nexts_of None tries (record { matching = λ q. (λ among. ((is.matching q).0 among, tt), λ behind. (is.matching q).1 behind.0); ordered = is.ordered }),
  )

  -- what is tried so far is a front of them
  pub nexts_are_front : (front tries : List ℕ) → NextTries routes request None front → IsTries routes request tries → IsFrontOf front tries
  nexts_are_front front tries some is = front_of None front tries some ((nexts_are_tries tries).1 is)
