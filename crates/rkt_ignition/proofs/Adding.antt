-- A list behind which the items of another are put one by one.
use Rattle.std.proofs.Common.{◌≡◌, ◌∷◌, ◌++◌, ◌∙◌, [], List, ap, append_assoc, append-nil, sym}

-- one more was put behind the others
pub one_added : {X : Type 0} (had rest left more all : List X) (x : X) → had ++ rest ≡ all → rest ≡ x ∷ left → more ≡ had ++ x ∷ [] → more ++ left ≡ all
one_added had rest left more all x so is added =
    ap (λ (l : List _). l ++ left) added ∙ append_assoc had (x ∷ []) left ∙ ap (λ (l : List _). had ++ l) (sym is) ∙ so

-- none is left
pub all_added : {X : Type 0} (had rest all : List X) → had ++ rest ≡ all → rest ≡ [] → had ≡ all
all_added had rest all so is = sym (append-nil had) ∙ ap (λ (l : List _). had ++ l) (sym is) ∙ so
