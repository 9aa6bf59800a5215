use Rattle.std.proofs.Common.{◌≡◌, ◌∙◌, refl, sym, Some}
use Rattle.std.specs.List.{slice_get}
use Rattle.std.proofs.lemmas.Option.{get_or_from_slice_get, slice_get_within}
use Rattle.rkt_fairing.proofs.Lent.{lent_is, lent_some, some_item}
use Rattle.rkt_fairing.proofs.fairings.Fairings.next_ignite.Goals as goal

pub returns : goal.returns
returns g c =
    let lists = c.self.inside.lists in
    let at : slice_get lists.places.ignite.items lists.ignited ≡ Some c.in_ok-place.place = sym c.place_of.ensures ∙ c.in_ok-place.was in
    let there = lent_some _ lists.places.ignite.items lists.ignited c.in_ok-place.place _ at c.self.invariant.places.ignite c.get_mut.ensures.item in
    let found = some_item c.get_mut.result (there.1 (slice_get_within _ _ _ at)) in (
      rw (← c.self.view_is, ← get_or_from_slice_get lists.places.ignite.items lists.ignited c.in_ok-place.place 0 at, found.1) refl,
      record {
        writes_back = tt;
        found = rw (← c.self.view_is) (lent_is _ _ c.in_ok-place.place _ at c.get_mut.ensures.item);
        some = rw (← c.self.view_is) there;
      },
    )
