-- Two steps on an outcome, one after the other.
use Rattle.std.proofs.Common.{◌≡◌, refl, sym, ap, subst}
use Rattle.rkt_http.specs.declared.outcome.Outcome.{Outcome}
use Rattle.rkt_http.specs.declared.outcome.Outcome.TheVariants.{Success, Error, Forward}
use Rattle.rkt_http.specs.Outcome.{IsSuccessAnd, Maps, GoesOn}
use Rattle.rkt_http.specs.OutcomeLaws.{GivenBy, MapsNothing, MapsInTurn, GoesOnFromSuccess, GoesOnWithSuccess, GoesOnInTurn}

-- a Success of just this value
success_of : {S E F : Type 0} (x : S) (after : Outcome S E F) → IsSuccessAnd after (λ y. y ≡ x) → after ≡ Success x
success_of {S} {E} {F} x (Success y) p = let f : S → Outcome S E F = λ z. Success z in ap f p
success_of x (Error e) p = absurd p
success_of x (Forward v) p = absurd p

of_success : {S E F : Type 0} (x : S) (after : Outcome S E F) → after ≡ Success x → IsSuccessAnd after (λ y. y ≡ x)
of_success {S} {E} {F} x after is = let P : Outcome S E F → Type 0 = λ o. IsSuccessAnd o (λ y. y ≡ x) in subst P (sym is) refl

pub maps_nothing : {S E F : Type 0} → MapsNothing S E F
maps_nothing (Success s) after = (success_of s after, of_success s after)
maps_nothing (Error e) after = (λ h. h, λ h. h)
maps_nothing (Forward v) after = (λ h. h, λ h. h)

-- the two maps of a Success
mapped : {S T U E F : Type 0} (f : S → T) (g : T → U) (s : S) (mid : Outcome T E F) (after : Outcome U E F)
    → IsSuccessAnd mid (GivenBy f s) → Maps (GivenBy g) mid after → IsSuccessAnd after (GivenBy (λ x. g (f x)) s)
mapped {S} {T} {U} {E} {F} f g s (Success t) after p q = let P : T → Type 0 = λ x. IsSuccessAnd after (GivenBy g x) in subst P p q
mapped f g s (Error e) after p q = absurd p
mapped f g s (Forward v) after p q = absurd p

pub maps_in_turn : {S T U E F : Type 0} → MapsInTurn S T U E F
maps_in_turn f g (Success s) after = (λ h. mapped f g s h.0 after h.1 h.2, λ h. (Success (f s), refl, h))
maps_in_turn {S} {T} {U} {E} {F} f g (Error e) after =
    let P : Outcome T E F → Type 0 = λ mid. Maps (GivenBy g) mid after in
    (λ h. subst P h.1 h.2, λ h. (Error e, refl, h))
maps_in_turn {S} {T} {U} {E} {F} f g (Forward v) after =
    let P : Outcome T E F → Type 0 = λ mid. Maps (GivenBy g) mid after in
    (λ h. subst P h.1 h.2, λ h. (Forward v, refl, h))

pub goes_on_from_success : {S T E F : Type 0} → GoesOnFromSuccess S T E F
goes_on_from_success f s after = (λ h. h, λ h. h)

pub goes_on_with_success : {S E F : Type 0} → GoesOnWithSuccess S E F
goes_on_with_success (Success s) after = (λ h. h, λ h. h)
goes_on_with_success (Error e) after = (λ h. h, λ h. h)
goes_on_with_success (Forward v) after = (λ h. h, λ h. h)

pub goes_on_in_turn : {S T U E F : Type 0} → GoesOnInTurn S T U E F
goes_on_in_turn {S} {T} {U} {E} {F} f g (Success s) after =
    let P : Outcome T E F → Type 0 = λ mid. GoesOn (GivenBy g) mid after in
    (λ h. subst P h.1 h.2, λ h. (f s, refl, h))
goes_on_in_turn {S} {T} {U} {E} {F} f g (Error e) after =
    let P : Outcome T E F → Type 0 = λ mid. GoesOn (GivenBy g) mid after in
    (λ h. subst P h.1 h.2, λ h. (Error e, refl, h))
goes_on_in_turn {S} {T} {U} {E} {F} f g (Forward v) after =
    let P : Outcome T E F → Type 0 = λ mid. GoesOn (GivenBy g) mid after in
    (λ h. subst P h.1 h.2, λ h. (Forward v, refl, h))
