-- A list of one that is added below a base.
use Rattle.std.proofs.Common.{◌≡◌, ◌∷◌, ◌∙◌, [], List, ap, map}

pub one_more : {S X : Type 0} (with_items : List X → S) (below : X → X) (result : S) (items : List X) (own : X)
    → result ≡ with_items (map below items) → items ≡ own ∷ [] → result ≡ with_items (below own ∷ [])
one_more with_items below result items own is one = is ∙ ap (λ l. with_items (map below l)) one
