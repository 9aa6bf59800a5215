-- A list that is made of another one, element by element.
use Rattle.std.proofs.Common.{◌≡◌, ◌<◌, ◌≤◌, ◌+◌, ◌++◌, ◌∷◌, ◌∙◌, ℕ, List, [], get_or, length, map, take, ap, sym}
use Rattle.std.proofs.lemmas.List.{map-append, take_all, take_more}

-- so many elements were made
pub record Made {X Y : Type 0} (f : X → Y) (made : List Y) (count : ℕ) (rest all : List X) : Type 0 where
  pub items : made ≡ map f (take count rest)
  pub same : rest ≡ all

pub made_more : {X Y : Type 0} (f : X → Y) (made next : List Y) (i : ℕ) (rest all : List X) (d : X) (y : Y) → Made f made i rest all → i < length rest → y ≡ f (get_or rest i d) → next ≡ made ++ y ∷ []
    → Made f next (i + 1) rest all
made_more f made next i rest all d y so_far more made_of pushed = record {
  items =
      pushed
      ∙ ap (λ (l : List _). l ++ y ∷ []) so_far.items
      ∙ ap (λ (z : _). map f (take i rest) ++ z ∷ []) made_of
      ∙ sym (map-append f (take i rest) (get_or rest i d ∷ []))
      ∙ ap (map f) (sym (take_more rest i d more));
  same = so_far.same;
}

pub made_all : {X Y : Type 0} (f : X → Y) (made : List Y) (i : ℕ) (rest all : List X) → Made f made i rest all → length rest ≤ i → made ≡ map f all
made_all f made i rest all so_far done = so_far.items ∙ ap (map f) (take_all i rest done ∙ so_far.same)
