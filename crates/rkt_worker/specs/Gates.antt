-- Under which Gates a response is sent, and when its link may be cut off.
use Rattle.std.specs.Prelude.{◌≡◌, ◌≤◌, ◌+◌, ℕ, Option, Some, option_map}
use Rattle.rkt_source.specs.declared.stage.Stage.{Stage}
use Rattle.rkt_source.specs.declared.stage.Stage.TheVariants.{Active, Grace, Mercy, Gone}
use Rattle.rkt_link.specs.Clock.{ClockMeaning, IsWithin}
use Rattle.rkt_source.specs.declared.source.Gate.{Gate}
use Rattle.rkt_board.specs.declared.history.End.{End as Ending}
use Rattle.rkt_board.specs.declared.history.End.TheVariants.{Answered, Lost, Cut, Failed, Abandoned, Starved}

-- what is watched between two sends
pub record Watched : Type 0 where
  -- the last moment that was told
  pub last : ℕ
  -- the first and the last moment that may be told, where that is known
  pub window : Option (ℕ × ℕ)
  -- how long a link may go on after a trip, and how long after that an exchange may
  pub grace : ℕ
  pub mercy : ℕ
  -- the word and the moment of the Trip, where there is one
  pub trip : Option (ℕ × ℕ)

-- the moments that are told, as those of a clock
abbrev pub told : Watched → ClockMeaning
told watched = record { last = watched.last; window = watched.window }

-- its delays are these
abbrev pub IsDelayedBy : ℕ → ℕ → Watched → Type 0
IsDelayedBy grace mercy watched = (watched.grace ≡ grace) × (watched.mercy ≡ mercy)

-- the word of a Trip, where there is one
abbrev pub word_in : Option (ℕ × ℕ) → Option ℕ
word_in trip = option_map (λ t. t.0) trip

-- moments never fall, a Trip stays, and the rest is as it was
pub record WatchedOn (old new : Watched) : Type 0 where
  pub rises : old.last ≤ new.last
  pub window : new.window ≡ old.window
  pub grace : new.grace ≡ old.grace
  pub mercy : new.mercy ≡ old.mercy
  pub trip : (trip : ℕ × ℕ) → old.trip ≡ Some trip → new.trip ≡ Some trip

-- the Trip was there by this moment
abbrev pub IsTrippedBy : Watched → ℕ → Type 0
IsTrippedBy watched moment = (trip : ℕ × ℕ) × (watched.trip ≡ Some trip) × (trip.1 ≤ moment)

-- a Gate of the last moment, with these delays; where it has a word, that is the Trip's
pub record IsGateOf (watched : Watched) (gate : Gate) : Type 0 where
  pub last : watched.last ≡ gate.moment
  pub within : IsWithin watched.window gate.moment
  pub grace : gate.grace ≡ watched.grace
  pub mercy : gate.mercy ≡ watched.mercy
  pub trip : (word : ℕ) → gate.tripped ≡ Some word → IsTrippedBy watched gate.moment × (word_in watched.trip ≡ Some word)

-- the Trip was there when it was seen, and by now that moment is told
pub record IsSeen (watched : Watched) (saw : ℕ) : Type 0 where
  pub tripped : IsTrippedBy watched saw
  pub told : saw ≤ watched.last
  pub within : IsWithin watched.window saw

-- and the grace was over when the link was cut off
pub record IsCut (watched : Watched) (saw cut : ℕ) : Type 0 where
  pub seen : IsSeen watched saw
  pub grace : saw + watched.grace ≤ cut
  pub told : cut ≤ watched.last
  pub within : IsWithin watched.window cut

-- how far a link may have come
abbrev pub MayStand : Watched → Stage → Type 0
MayStand watched Active = Unit {0}
MayStand watched (Grace saw) = IsSeen watched saw
MayStand watched (Mercy saw cut) = IsCut watched saw cut
MayStand watched (Gone saw cut) = IsCut watched saw cut

-- a response ended by its link's being cut off only where that was so
abbrev pub IsCutBy : Watched → Ending → Type 0
IsCutBy watched (Cut saw cut) = IsCut watched saw cut
IsCutBy watched Answered = Unit {0}
IsCutBy watched Lost = Unit {0}
IsCutBy watched (Failed failure) = Unit {0}
IsCutBy watched Abandoned = Unit {0}
IsCutBy watched Starved = Unit {0}

-- and then the link that has come so far is gone since then; nothing that is sent is abandoned
abbrev pub IsCutOff : Watched → Stage → Ending → Type 0
IsCutOff watched stage (Cut saw cut) = (stage ≡ Gone saw cut) × IsCut watched saw cut
IsCutOff watched stage Answered = Unit {0}
IsCutOff watched stage Lost = Unit {0}
IsCutOff watched stage (Failed failure) = Unit {0}
IsCutOff watched stage Abandoned = ⊥
IsCutOff watched stage Starved = Unit {0}
