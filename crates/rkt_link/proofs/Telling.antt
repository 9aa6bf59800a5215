-- What is known of a clock that told some moments.
use Rattle.std.proofs.Common.{◌≡◌, ◌≤◌, ℕ, ◌∙◌, refl, subst, arith}
use Rattle.rkt_link.specs.Clock.{ClockMeaning, IsWithin, TellsOn}

-- a clock that told nothing more
pub tells_same : (m : ClockMeaning) → TellsOn m m
tells_same m = record { rises = omega arith; window = refl }

-- one moment more
pub tells_more : (first old new : ClockMeaning) (moment : ℕ) → TellsOn first old → old.last ≤ moment → new ≡ record old { last = moment } → TellsOn first new
tells_more first old new moment told rises is = rw is (record { rises = omega (arith, told.rises, rises); window = told.window })

-- one after the other
pub tells_then : (a b c : ClockMeaning) → TellsOn a b → TellsOn b c → TellsOn a c
tells_then a b c one two = record { rises = omega (arith, one.rises, two.rises); window = two.window ∙ one.window }

-- a moment that is told lies in the window that there was at first
pub told_within : (first old : ClockMeaning) (moment : ℕ) → TellsOn first old → IsWithin old.window moment → IsWithin first.window moment
told_within first old moment told within = subst (λ w. IsWithin w moment) told.window within
