-- A walk gives the tries of a request.
use Rattle.std.proofs.Common.{◌≡◌, ◌<◌, ◌≤◌, ◌+◌, ℕ, zero, suc, List, [], ◌∷◌, Some, None, ◌⊎◌, inl, inr, arith, sym, ◌∙◌, ap, refl, subst, length, map, get_or}
use Rattle.std.specs.Prelude.{slice_get, slice_index}
use Rattle.std.specs.Iterator.{Drains, Yields}
use Rattle.std.specs.List.{All, AllPairs, IsAmong}
use Rattle.std.proofs.lemmas.List.{get_or_default}
use Rattle.std.proofs.lemmas.List.Kept.{AllPairs-cons}
use Rattle.rkt_request.specs.Seen.{Seen}
use Rattle.rkt_router.specs.Order.{IsFirstAt, IsFirstMatch, IsSorted}
use Rattle.rkt_router.specs.Router.{IsOrder}
use Rattle.rkt_router.specs.Tries.{Before, IsTries, MatchesAt}
use Rattle.rkt_router.specs.Walk.{GivesTries, SeenTries, Try, TriesOn}
use Rattle.rkt_route.specs.declared.route.Route.{Route}
use Rattle.rkt_route.proofs.Among.{among_first, among_later}
use Rattle.rkt_router.proofs.Orders.{matching_within}

-- a position that matches, at or behind a place
record Left {H S V : Type 0} (routes : List (Route H S)) (order : List ℕ) (request : Seen V) (place p : ℕ) : Type 0 where
  at : ℕ
  from : place ≤ at
  within : at < length order
  is : p ≡ slice_index order at
  matching : MatchesAt routes request p

-- what the items from a place on are
record Rest {H S V : Type 0} (routes : List (Route H S)) (order : List ℕ) (request : Seen V) (place : ℕ) (items : List (Try H S)) : Type 0 where
  sound : (p : ℕ) → IsAmong (map (λ item. item.0) items) p → Left routes order request place p
  complete : (p : ℕ) → Left routes order request place p → IsAmong (map (λ item. item.0) items) p
  ordered : AllPairs (Before routes) (map (λ item. item.0) items)
  lent : All (λ item. slice_get routes item.0 ≡ Some item.1.now) items

module _ {H S V : Type 0} (routes : List (Route H S)) (order : List ℕ) (request : Seen V) (sorted : IsSorted routes order) where
  rest_none : (place : ℕ) → IsFirstMatch routes order request place None → Rest routes order request place []
  rest_none place none = record {
    sound = λ p among. absurd (omega (arith, among.1.0));
    complete = λ p left. absurd (none left.at left.from left.within (subst (MatchesAt routes request) left.is left.matching));
    ordered = λ i j d less within. absurd (omega (arith, within));
    lent = λ k d within. absurd (omega (arith, within));
  }

  later_left : (place at p : ℕ) → place ≤ at → Left routes order request (at + 1) p → Left routes order request place p
  later_left place at p from left = record { at = left.at; from = omega (arith, left.from, from); within = left.within; is = left.is; matching = left.matching }

  rest_cons : (place at : ℕ) (item : Try H S) (items : List (Try H S)) → IsFirstAt routes order request place at → item.0 ≡ slice_index order at → slice_get routes item.0 ≡ Some item.1.now
      → Rest routes order request (at + 1) items → Rest routes order request place (item ∷ items)
  rest_cons place at item items first is there rest = record {
    sound = λ p among. sound_at p among.0 among.1.0 among.1.1;
    complete = λ p left. complete_at p left (places left.at at);
    ordered = AllPairs-cons (Before routes) item.0 (map (λ item. item.0) items)
        (λ k d within. before_left (get_or (map (λ item. item.0) items) k d)
        (rest.sound (get_or (map (λ item. item.0) items) k d) (k, (within, get_or_default (map (λ item. item.0) items) k d (get_or (map (λ item. item.0) items) k d) within))))
        rest.ordered;
    lent = lent_at;
  }
    where
      places : (k at : ℕ) → (k < at) ⊎ ((k ≡ at) ⊎ (at < k))
      places k at = grind arith

      sound_at : (p i : ℕ) → i < length (item.0 ∷ map (λ item. item.0) items) → p ≡ get_or (item.0 ∷ map (λ item. item.0) items) i p → Left routes order request place p
      sound_at p zero within same =
          record { at = at; from = first.behind; within = first.within; is = same ∙ is; matching = subst (MatchesAt routes request) (sym (same ∙ is)) first.matching }
      sound_at p (suc i) within same = later_left place at p first.behind (rest.sound p (i, (omega (arith, within), same)))

      complete_at : (p : ℕ) → (left : Left routes order request place p) → (left.at < at) ⊎ ((left.at ≡ at) ⊎ (at < left.at)) → IsAmong (item.0 ∷ map (λ item. item.0) items) p
      complete_at p left (inl earlier) = absurd (first.skipped left.at left.from earlier (subst (MatchesAt routes request) left.is left.matching))
      complete_at p left (inr (inl same)) =
          let here : item.0 ≡ p = is ∙ ap (slice_index order) (sym same) ∙ sym left.is in subst (IsAmong (item.0 ∷ map (λ item. item.0) items)) here (among_first item.0 (map (λ item. item.0) items))
      complete_at p left (inr (inr later)) =
          among_later item.0 p (map (λ item. item.0) items)
          (rest.complete p (record { at = left.at; from = omega (arith, later); within = left.within; is = left.is; matching = left.matching }))

      before_left : (p : ℕ) → Left routes order request (at + 1) p → Before routes item.0 p
      before_left p left =
          subst (λ (q : ℕ). Before routes q p) (sym is) (subst (Before routes (slice_index order at)) (sym left.is) (sorted.pairs at left.at 0 (omega (arith, left.from)) left.within))

      lent_at : (k : ℕ) (d : Try H S) → k < length (item ∷ items) → slice_get routes (get_or (item ∷ items) k d).0 ≡ Some (get_or (item ∷ items) k d).1.now
      lent_at zero d within = there
      lent_at (suc k) d within = rest.lent k d (omega (arith, within))

  walk_at : (place : ℕ) → SeenTries H S V
  walk_at place = record { routes = routes; order = order; request = request; place = place }

  rest_of : (items : List (Try H S)) (place : ℕ) (s t u : SeenTries H S V) → s ≡ walk_at place → Yields TriesOn s items t → TriesOn t None u → Rest routes order request place items
  unfolding walk_at
  rest_of [] place s t u is same ends =
      rest_none place (subst (λ (w : SeenTries H S V). IsFirstMatch w.routes w.order w.request w.place None) (sym same ∙ is) ends.0)
  rest_of (item ∷ items) place s t u is yields ends =
      let step = subst (λ (w : SeenTries H S V). TriesOn w (Some item) yields.0) is yields.1 in
      rest_cons place step.0 item items step.1 step.2 step.3 (rest_of items (step.0 + 1) yields.0 t u step.4 yields.2 ends)

-- a walk from the start gives the tries
pub gives_tries : {H S V : Type 0} (routes : List (Route H S)) (order : List ℕ) (request : Seen V) → IsOrder routes order
    → GivesTries (record { routes = routes; order = order; request = request; place = 0 }) routes request
unfolding walk_at
gives_tries {H} {S} {V} routes order request is = record { tries = λ items drains. tries_of items (rest items drains); lent = λ items drains. (rest items drains).lent }
  where
    rest : (items : List (Try H S)) → Drains TriesOn (record { routes = routes; order = order; request = request; place = 0 }) items → Rest routes order request 0 items
    rest items drains = rest_of routes order request is.sorted items 0 (record { routes = routes; order = order; request = request; place = 0 }) drains.1.0 drains.0 refl drains.1.1 drains.1.2

    tries_of : (items : List (Try H S)) → Rest routes order request 0 items → IsTries routes request (map (λ item. item.0) items)
    tries_of items all = record {
      matching = λ p. (
        λ among. (all.sound p among).matching,
        λ matching.
            let among = (is.each p).1 (matching_within routes request p matching) in
            all.complete p (record {
              at = among.0;
              from = omega arith;
              within = among.1.0;
              is = among.1.1 ∙ get_or_default order among.0 p 0 among.1.0;
              matching = matching;
            }),
      );
      ordered = all.ordered;
    }

-- the same, where routes and order go by other names
pub walk_gives : {H S V : Type 0} (walk : SeenTries H S V) (routes routes' : List (Route H S)) (order order' : List ℕ) (request : Seen V)
    → walk ≡ record { routes = routes'; order = order'; request = request; place = 0 } → routes' ≡ routes → order' ≡ order → IsOrder routes order → GivesTries walk routes request
walk_gives {H} {S} {V} walk routes routes' order order' request is same same' ordered =
    let Walk : List (Route H S) → List ℕ → SeenTries H S V = λ r o. record { routes = r; order = o; request = request; place = 0 } in
    subst (λ (w : SeenTries H S V). GivesTries w routes request) (sym (is ∙ ap (λ (r : List (Route H S)). Walk r order') same ∙ ap (Walk routes) same')) (gives_tries routes order request ordered)
