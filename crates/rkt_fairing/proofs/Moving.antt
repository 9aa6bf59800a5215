-- A list whose items are moved one by one.
use Rattle.std.proofs.Common.{◌≡◌, ◌∷◌, ◌++◌, ◌∙◌, [], List, map, ap, append_assoc, append-nil, sym}

-- those that are left, once they are moved, come behind those that were moved
abbrev pub MovesOn : {X : Type 0} → (X → X) → List X → List X → List X → Type 0
MovesOn f moved rest all = moved ++ map f rest ≡ map f all

pub moving_begins : {X : Type 0} (f : X → X) (moved rest all : List X) → moved ≡ [] → rest ≡ all → MovesOn f moved rest all
moving_begins f moved rest all none whole = ap (λ (l : List _). l ++ map f rest) none ∙ ap (map f) whole

pub moving_goes_on : {X : Type 0} (f : X → X) (moved next rest others all : List X) (x y : X) → MovesOn f moved rest all → rest ≡ x ∷ others → y ≡ f x → next ≡ moved ++ y ∷ []
    → MovesOn f next others all
moving_goes_on f moved next rest others all x y moves is made pushed =
    ap (λ (l : List _). l ++ map f others) (pushed ∙ ap (λ (z : _). moved ++ z ∷ []) made)
    ∙ append_assoc moved (f x ∷ []) (map f others)
    ∙ ap (λ (l : List _). moved ++ map f l) (sym is)
    ∙ moves

pub moving_ends : {X : Type 0} (f : X → X) (moved rest all : List X) → MovesOn f moved rest all → rest ≡ [] → moved ≡ map f all
moving_ends f moved rest all moves is = sym (append-nil moved) ∙ ap (λ (l : List _). moved ++ map f l) (sym is) ∙ moves
