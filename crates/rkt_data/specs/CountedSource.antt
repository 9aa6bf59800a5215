-- A source behind a body, and what several reads of it come to.
use Rattle.std.specs.Option.{ForSome}
use Rattle.std.specs.Prelude.{◌≡◌, ⊤, ℕ, ◌+◌, ◌<◌, ◌≤◌, ◌⊎◌, Bool, true, false, List, length, take, drop, Option, Some, None, option_map, Result, Ok, Err}
use Rattle.rkt_base.specs.declared.poll.Poll.{Poll}
use Rattle.rkt_base.specs.declared.poll.Poll.TheVariants.{Ready, Pending}
use Rattle.rkt_source.specs.Source.{Meaning, Polled, ReadOnce, Keeps, Waits, Errs}
use Rattle.rkt_source.specs.declared.source.Gate.{Gate}
use Rattle.rkt_source.specs.declared.source.SourceError.{SourceError}
use Rattle.rkt_data.specs.declared.counted_source.Stop.{Stop}
use Rattle.rkt_data.specs.declared.counted_source.Stop.TheVariants.{Full, End, Failed, Waiting}
use Rattle.rkt_data.specs.declared.counted_source.CountedSource.{CountedSource}

-- a source as it is now, and as it was handed in
pub record Tapped (S : Type 0) : Type 0 where
  pub now : S
  pub begun : S

abbrev pub tapped : {S : Type 0} → Option (CountedSource S) → Option (Tapped S)
tapped None = None
tapped (Some t) = Some record { now = t.source; begun = t.begun.value }

-- how several reads have ended: the last was refused or Pending, or none was, and whether the last may have met the end
abbrev pub Ending : Type 0
Ending = Poll (Result Bool SourceError)

-- each gave bytes
abbrev pub gave : Ending
gave = Ready (Ok false)

-- each gave bytes, but maybe a last one that met the end
abbrev pub ended : Ending
ended = Ready (Ok true)

-- what an answer tells of that
abbrev pub ending_of : {X : Type 0} → Poll (Result X SourceError) → Ending
ending_of Pending = Pending
ending_of (Ready (Ok x)) = ended
ending_of (Ready (Err e)) = Ready (Err e)

-- any number of reads under this Gate, each of which gave bytes, lead from the first to the second
pub data Polls {S : Type 0} (polled : Polled S) (gate : Gate) : S → S → Type 0 where
  none : {s : S} → Polls polled gate s s
  more : {s t u : S} {n : ℕ} → Polls polled gate s t → 0 < n → ReadOnce polled gate (Ready (Ok n)) t u → Polls polled gate s u

-- behind such reads the last one was answered so
abbrev pub PollsBefore : {S : Type 0} → Polled S → Gate → Poll (Result ℕ SourceError) → S → S → Type 0
PollsBefore polled gate answer s t = (r : _) × Polls polled gate s r × ReadOnce polled gate answer r t

-- reads under this Gate have ended so: nothing was read behind the end, behind a refusal and behind Pending
abbrev pub PollsTo : {S : Type 0} → Polled S → Gate → Ending → S → S → Type 0
PollsTo polled gate Pending s t = PollsBefore polled gate Pending s t
PollsTo polled gate (Ready (Ok false)) s t = Polls polled gate s t
PollsTo polled gate (Ready (Ok true)) s t = Polls polled gate s t ⊎ PollsBefore polled gate (Ready (Ok 0)) s t
PollsTo polled gate (Ready (Err e)) s t = PollsBefore polled gate (Ready (Err e)) s t

-- the source, where there is one, was called under this Gate alone, and its reads have ended so
abbrev pub ByGate : {S : Type 0} → Polled S → Gate → Ending → Option (Tapped S) → Option (Tapped S) → Type 0
ByGate polled gate how None None = ⊤
ByGate polled gate how None (Some u) = ⊥
ByGate polled gate how (Some t) None = ⊥
ByGate polled gate how (Some t) (Some u) = PollsTo polled gate how t.now u.now

-- the source was read once under this Gate with this room, and has answered so; without a source that is the end
abbrev pub AsksTap : {S : Type 0} → Polled S → Gate → ℕ → Poll (Result ℕ SourceError) → Option (Tapped S) → Option (Tapped S)
    → Type 0
AsksTap polled gate room answer None None = answer ≡ Ready (Ok 0)
AsksTap polled gate room answer None (Some u) = ⊥
AsksTap polled gate room answer (Some t) None = ⊥
AsksTap polled gate room answer (Some t) (Some u) = polled t.now gate room answer u.now

-- it is the same source, and keeps what no read changes
abbrev pub SameTap : {S : Type 0} → (S → Meaning) → Option ℕ → Option (Tapped S) → Option (Tapped S) → Type 0
SameTap meaning trip None None = ⊤
SameTap meaning trip None (Some u) = ⊥
SameTap meaning trip (Some t) None = ⊥
SameTap meaning trip (Some t) (Some u) = (u.begun ≡ t.begun) × Keeps trip (meaning t.now) (meaning u.now)

-- there is a source, and it may be the cause of this error
abbrev pub TapErrs : {S : Type 0} → (S → Meaning) → SourceError → Option (Tapped S) → Option (Tapped S) → Type 0
TapErrs meaning e None u = ⊥
TapErrs meaning e (Some t) None = ⊥
TapErrs meaning e (Some t) (Some u) = Errs e (meaning t.now) (meaning u.now)

-- there is a source, and it was Pending
abbrev pub TapWaits : {S : Type 0} → (S → Meaning) → Option (Tapped S) → Option (Tapped S) → Type 0
TapWaits meaning None u = ⊥
TapWaits meaning (Some t) None = ⊥
TapWaits meaning (Some t) (Some u) = Waits (meaning t.now) (meaning u.now)

-- a body's bytes: without a source those held, else all that the source had still to give when it was handed in
abbrev pub body : {S : Type 0} → (S → Meaning) → List ℕ → Option (Tapped S) → Option (List ℕ)
body meaning held None = Some held
body meaning held (Some t) = option_map (drop (meaning t.begun).taken) (meaning t.begun).whole

-- several reads under one Gate gave n bytes together, which stand at the front of room
pub record Pulled (trip : Option ℕ) (m m' : Meaning) (n : ℕ) (room : List ℕ) : Type 0 where
  pub kept : Keeps trip m m'
  pub taken : m'.taken ≡ m.taken + n
  pub bytes : ForSome m.whole (λ w. take n room ≡ take n (drop m.taken w))
  pub within : n ≤ length room

-- why they ended
abbrev pub Stopped : Meaning → Meaning → ℕ → List ℕ → Stop → Type 0
Stopped m m' n room Full = n ≡ length room
Stopped m m' n room End = ForSome m.whole (λ w. m'.taken ≡ length w)
Stopped m m' n room Waiting = Waits m m'
Stopped m m' n room (Failed e) = Errs e m m'

-- how the reads of a call have ended that stopped so
abbrev pub ending_at : Stop → Ending
ending_at Full = gave
ending_at End = ended
ending_at Waiting = Pending
ending_at (Failed e) = Ready (Err e)

-- the bytes held are those that a source has given since it was handed in
pub record Gave (m n : Meaning) (held : List ℕ) : Type 0 where
  pub taken : n.taken ≡ m.taken + length held
  pub whole : n.whole ≡ m.whole
  pub bytes : ForSome n.whole (λ w. held ≡ take (length held) (drop m.taken w))

-- a buffer that held the first bytes of a source now holds more of them
pub record ToppedUp (trip : Option ℕ) (begun m n : Meaning) (held want : ℕ) (old new : List ℕ) (now : ℕ) : Type 0 where
  pub kept : Keeps trip m n
  pub gave : Gave begun n (take now new)
  pub more : held ≤ now
  pub within : now ≤ want
  pub front : take held new ≡ take held old
