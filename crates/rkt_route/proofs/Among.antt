-- What is among the items of a list.
use Rattle.std.proofs.Common.{◌≡◌, ◌↔◌, ◌<◌, ℕ, zero, suc, List, [], ◌∷◌, arith, sym, refl, length, get_or, subst}
use Rattle.std.specs.List.{IsAmong}

pub among_none : {X : Type 0} (v : X) → ¬ IsAmong [] v
among_none v among = absurd (omega (arith, among.1.0))

pub among_first : {X : Type 0} (x : X) (xs : List X) → IsAmong (x ∷ xs) x
among_first x xs = (0, (omega arith, refl))

pub among_later : {X : Type 0} (x v : X) (xs : List X) → IsAmong xs v → IsAmong (x ∷ xs) v
among_later x v xs among = (suc among.0, (omega (arith, among.1.0), among.1.1))

pub not_first : {X : Type 0} (x v : X) (xs : List X) → ¬ (v ≡ x) → (i : ℕ) → i < length (x ∷ xs) → v ≡ get_or (x ∷ xs) i v → IsAmong xs v
not_first x v xs other zero within is = absurd (other is)
not_first x v xs other (suc i) within is = (i, (omega arith, is))

-- an item that is the one sought, and one that is not
pub found_among : {X : Type 0} (whole : Type 0) (items rest : List X) (x v : X) → whole ↔ IsAmong items v → items ≡ x ∷ rest → x ≡ v → whole
found_among whole items rest x v law is same =
    law.1 (subst (λ (xs : List _). IsAmong xs v) (sym is) (subst (IsAmong (x ∷ rest)) same (among_first x rest)))

pub among_on : {X : Type 0} (whole : Type 0) (items rest : List X) (x v : X) → whole ↔ IsAmong items v → items ≡ x ∷ rest → ¬ (x ≡ v) → whole ↔ IsAmong rest v
among_on whole items rest x v law is other = (
  λ h. let here = subst (λ (xs : List _). IsAmong xs v) is (law.0 h) in not_first x v rest (λ e. other (sym e)) here.0 here.1.0 here.1.1,
  λ h. law.1 (subst (λ (xs : List _). IsAmong xs v) (sym is) (among_later x v rest h)),
)
