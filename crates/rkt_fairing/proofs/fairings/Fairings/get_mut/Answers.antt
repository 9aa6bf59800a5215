use Rattle.std.proofs.Common.{◌≡◌, ◌∙◌, refl, sym, Some}
use Rattle.std.specs.List.{slice_get}
use Rattle.std.proofs.lemmas.Option.{get_or_from_slice_get}
use Rattle.rkt_fairing.specs.Places.{places_of, seen_places}
use Rattle.rkt_fairing.proofs.Lent.{lent_is, lent_some}
use Rattle.rkt_fairing.proofs.Sound.{below_of}
use Rattle.rkt_fairing.proofs.fairings.Fairings.get_mut.Goals as goal

pub returns : goal.returns
returns g c =
    let places = places_of c.args.callback (seen_places c.self.inside.lists.places) in
    let at : slice_get places c.args.n ≡ Some c.in_ok-place.place = sym c.place_of.ensures ∙ c.in_ok-place.was in (
      rw (← c.self.view_is, ← get_or_from_slice_get places c.args.n c.in_ok-place.place 0 at) refl,
      record {
        writes_back = tt;
        found = rw (← c.self.view_is) (lent_is _ _ c.in_ok-place.place _ at c.get_mut.ensures.item);
        some = rw (← c.self.view_is) (lent_some _ places c.args.n c.in_ok-place.place _ at (below_of c.args.callback _ _ c.self.invariant.places) c.get_mut.ensures.item);
      },
    )
