-- The laws of mapping an outcome and of going on from one, for all functions and outcomes.
use Rattle.std.specs.Prelude.{◌≡◌, ◌↔◌}
use Rattle.rkt_http.specs.Outcome.{Maps, GoesOn}
use Rattle.rkt_http.specs.declared.outcome.Outcome.{Outcome}
use Rattle.rkt_http.specs.declared.outcome.Outcome.TheVariants.{Success}

-- the second is what the function gives of the first
abbrev pub GivenBy : {A B : Type 0} → (A → B) → A → B → Type 0
GivenBy f a b = b ≡ f a

-- to map by a function that changes nothing is to change nothing
abbrev pub MapsNothing : Type 0 → Type 0 → Type 0 → Type 0
MapsNothing S E F = (before after : Outcome S E F) → Maps (GivenBy (λ s. s)) before after ↔ (after ≡ before)

-- to map by one function and then by another is to map by the one followed by the other
abbrev pub MapsInTurn : Type 0 → Type 0 → Type 0 → Type 0 → Type 0 → Type 0
MapsInTurn S T U E F =
    (f : S → T) (g : T → U) (before : Outcome S E F) (after : Outcome U E F)
    → ((mid : Outcome T E F) × Maps (GivenBy f) before mid × Maps (GivenBy g) mid after)
    ↔ Maps (GivenBy (λ s. g (f s))) before after

-- a Success is a left unit: to go on from it is to call the function on its value
abbrev pub GoesOnFromSuccess : Type 0 → Type 0 → Type 0 → Type 0 → Type 0
GoesOnFromSuccess S T E F =
    (f : S → Outcome T E F) (s : S) (after : Outcome T E F) → GoesOn (GivenBy f) (Success s) after ↔ (after ≡ f s)

-- a Success is a right unit: to go on with a Success of the same value is to change nothing
abbrev pub GoesOnWithSuccess : Type 0 → Type 0 → Type 0 → Type 0
GoesOnWithSuccess S E F = (before after : Outcome S E F) → GoesOn (GivenBy (λ s. Success s)) before after ↔ (after ≡ before)

-- to go on by one function and then by another is to go on by the one from whose outcome the other goes on
abbrev pub GoesOnInTurn : Type 0 → Type 0 → Type 0 → Type 0 → Type 0 → Type 0
GoesOnInTurn S T U E F =
    (f : S → Outcome T E F) (g : T → Outcome U E F) (before : Outcome S E F) (after : Outcome U E F)
    → ((mid : Outcome T E F) × GoesOn (GivenBy f) before mid × GoesOn (GivenBy g) mid after)
    ↔ GoesOn (λ s. GoesOn (GivenBy g) (f s)) before after
