use Rattle.std.proofs.Common.{List, ℕ, refl}
use Rattle.std.proofs.lemmas.Slice.Eq.{slice_eq-Decides, starts_is}
use Rattle.std.proofs.lemmas.Bool.Decides.{Decides-eqb}
use Rattle.rkt_uri.proofs.segments.Segments.prefix_of.Goals as goal

pub returns : goal.returns
returns c =
    let decided = starts_is (λ (a b : List ℕ). slice_eq-Decides Decides-eqb a b _ refl) c.other.inside.items.now c.self.inside.items.now _ c.starts_with.ensures.value in
    rw (← c.other.view_is, ← c.self.view_is) (λ is. (_, decided.0 is), λ front. decided.1 front.0 front.1)
