-- What a clock means.
use Rattle.std.specs.Prelude.{◌≡◌, ◌≤◌, ℕ, Option}
use Rattle.std.specs.Option.{ForSome}

pub record ClockMeaning : Type 0 where
  -- the last moment that it has told
  pub last : ℕ
  -- the first and the last moment that it may tell, where it tells them
  pub window : Option (ℕ × ℕ)

-- the moment lies in the window, where there is one
abbrev pub IsWithin : Option (ℕ × ℕ) → ℕ → Type 0
IsWithin window moment = ForSome window (λ w. (w.0 ≤ moment) × (moment ≤ w.1))

-- a clock that has told some more moments, or none
pub record TellsOn (old new : ClockMeaning) : Type 0 where
  pub rises : old.last ≤ new.last
  pub window : new.window ≡ old.window

-- a moment of the window that is not before what the clock had told, and not after what it has told now
pub record IsAmid (old new : ClockMeaning) (moment : ℕ) : Type 0 where
  pub from : old.last ≤ moment
  pub to : moment ≤ new.last
  pub within : IsWithin old.window moment
