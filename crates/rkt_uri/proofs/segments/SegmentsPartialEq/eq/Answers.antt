use Rattle.std.proofs.Common.{List, ℕ, refl}
use Rattle.std.proofs.lemmas.Slice.Eq.{slice_eq-Decides}
use Rattle.std.proofs.lemmas.Bool.Decides.{Decides-eqb}
use Rattle.rkt_uri.proofs.segments.SegmentsPartialEq.eq.Goals as goal

pub returns-clause-same : goal.returns-clause-same
returns-clause-same c =
    rw (← c.other.view_is, ← c.self.view_is)
    (slice_eq-Decides (λ (a b : List ℕ). slice_eq-Decides Decides-eqb a b _ refl) c.self.inside.items.now c.other.inside.items.now _ c.eq.ensures)
