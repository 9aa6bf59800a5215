-- The machine of an object that a trip cuts off: Active, Grace since a moment, Mercy since a later one, Gone.
use Rattle.rkt_source.specs.Source.{Meaning, Polled}
use Rattle.std.specs.Prelude.{List, [], ◌∷◌, ◌⊎◌, ◌||◌, ◌≡◌, ℕ, ◌-◌, ◌≤◌, nat_le, Bool, true, false, if◌then◌else◌, Option, None, Some, Result, Ok, Err}
use Rattle.rkt_base.specs.declared.poll.Poll.{Poll}
use Rattle.rkt_base.specs.declared.poll.Poll.TheVariants.{Ready, Pending}
use Rattle.rkt_source.specs.declared.source.Gate.{Gate}
use Rattle.rkt_source.specs.declared.source.SourceError.{SourceError}
use Rattle.rkt_source.specs.declared.source.SourceError.TheVariants as source_error
use Rattle.rkt_source.specs.declared.stage.Stage.{Stage}
use Rattle.rkt_source.specs.declared.stage.Stage.TheVariants.{Active, Grace, Mercy, Gone}
use Rattle.rkt_source.specs.declared.stage.Refused.{Refused}
use Rattle.rkt_source.specs.declared.stage.Refused.TheVariants as refused

-- an object, and how far it has come
pub record Cancellable (I : Type 0) : Type 0 where
  pub stage : Stage
  pub io : I

-- a Gate with a trip begins the grace
abbrev pub noticed : Option ℕ → ℕ → Stage → Stage
noticed None now Active = Active
noticed (Some trip) now Active = Grace now
noticed trip now (Grace saw) = Grace saw
noticed trip now (Mercy saw cut) = Mercy saw cut
noticed trip now (Gone saw cut) = Gone saw cut

-- the grace ends
abbrev pub run_out : ℕ → ℕ → Stage → Stage
run_out grace now Active = Active
run_out grace now (Grace saw) = if nat_le grace (now - saw) then Mercy saw now else Grace saw
run_out grace now (Mercy saw cut) = Mercy saw cut
run_out grace now (Gone saw cut) = Gone saw cut

-- the stage in which a call under this Gate is answered
abbrev pub advanced : Gate → Stage → Stage
advanced gate s = run_out gate.grace gate.moment (noticed gate.tripped gate.moment s)

-- one call of the machine: the stage in which it is answered, or Gone behind that where a shutdown or the mercy ended
abbrev pub Steps : Gate → Stage → Stage → Type 0
Steps gate s t = (t ≡ advanced gate s) ⊎ ((saw : ℕ) × (cut : ℕ) × (advanced gate s ≡ Mercy saw cut) × (t ≡ Gone saw cut))

-- calls under these Gates, one after another
abbrev pub Runs : List Gate → Stage → Stage → Type 0
Runs [] s t = t ≡ s
Runs (gate ∷ gates) s t = (u : Stage) × Steps gate s u × Runs gates u t

-- each of these Gates has this grace
abbrev pub HaveGrace : ℕ → List Gate → Type 0
HaveGrace grace [] = Unit {0}
HaveGrace grace (gate ∷ gates) = (gate.grace ≡ grace) × HaveGrace grace gates

-- the mercy has ended
abbrev pub late : Gate → ℕ → Bool
late gate cut = nat_le gate.mercy (gate.moment - cut)

abbrev pub saw_of : Stage → Option ℕ
saw_of Active = None
saw_of (Grace saw) = Some saw
saw_of (Mercy saw cut) = Some saw
saw_of (Gone saw cut) = Some saw

abbrev pub cut_of : Stage → Option ℕ
cut_of Active = None
cut_of (Grace saw) = None
cut_of (Mercy saw cut) = Some cut
cut_of (Gone saw cut) = Some cut

-- calls under Gates of one grace, however many, cut an object off once that grace has gone by since the trip was seen
abbrev pub CutsAfterGrace : Type 0
CutsAfterGrace =
    (grace : ℕ) (gates : List Gate) (s : Stage) (saw cut : ℕ)
    → HaveGrace grace gates
    → Runs gates Active s
    → saw_of s ≡ Some saw
    → cut_of s ≡ Some cut
    → grace ≤ cut - saw

abbrev pub is_gone : Stage → Bool
is_gone Active = false
is_gone (Grace saw) = false
is_gone (Mercy saw cut) = false
is_gone (Gone saw cut) = true

abbrev pub is_warned : Stage → Bool
is_warned Active = false
is_warned (Grace saw) = true
is_warned (Mercy saw cut) = true
is_warned (Gone saw cut) = true

-- the object may be called
abbrev pub is_open : Stage → Bool
is_open Active = true
is_open (Grace saw) = true
is_open (Mercy saw cut) = false
is_open (Gone saw cut) = false

-- what a source means behind the machine
abbrev pub cut_meaning : Stage → Meaning → Meaning
cut_meaning s m = record m { warned = is_warned s || m.warned; shut = is_gone s || m.shut }

-- what the object answered, handed on
abbrev pub granted : {T : Type 0} → Poll T → Poll (Result T Refused)
granted (Ready x) = Ready (Ok x)
granted Pending = Pending

-- why it was not called, handed on
abbrev pub withheld : {T : Type 0} → Poll Refused → Poll (Result T Refused)
withheld (Ready refusal) = Ready (Err refusal)
withheld Pending = Pending

-- the same of a read
abbrev pub refused_read : Poll Refused → Poll (Result ℕ SourceError)
refused_read (Ready refused.Gone) = Ready (Err source_error.Gone)
refused_read (Ready refused.TimedOut) = Ready (Err source_error.TimedOut)
refused_read Pending = Pending

module _ {I : Type 0} (shuts : I → Poll (Unit {0}) → I → Type 0) where
  -- the shutdown was polled
  abbrev pub Shutting : ℕ → ℕ → I → Cancellable I → Poll Refused → Type 0
  Shutting saw cut io after Pending = (after.stage ≡ Mercy saw cut) × shuts io Pending after.io
  Shutting saw cut io after (Ready refusal) =
      (after.stage ≡ Gone saw cut) × shuts io (Ready tt) after.io × (refusal ≡ refused.Gone)

  abbrev pub Ending : Bool → ℕ → ℕ → I → Cancellable I → Poll Refused → Type 0
  Ending true saw cut io after refusal = (after ≡ record { stage = Gone saw cut; io = io }) × (refusal ≡ Ready refused.TimedOut)
  Ending false saw cut io after refusal = Shutting saw cut io after refusal

  abbrev pub ClosedAt : Gate → Stage → I → Cancellable I → Poll Refused → Type 0
  ClosedAt gate Active io after refusal = ⊥
  ClosedAt gate (Grace saw) io after refusal = ⊥
  ClosedAt gate (Mercy saw cut) io after refusal = Ending (late gate cut) saw cut io after refusal
  ClosedAt gate (Gone saw cut) io after refusal =
      (after ≡ record { stage = Gone saw cut; io = io }) × (refusal ≡ Ready refused.Gone)

  -- a call in Mercy or Gone, in which the object is not called
  abbrev pub Closed : Gate → Cancellable I → Cancellable I → Poll Refused → Type 0
  Closed gate before after refusal = ClosedAt gate (advanced gate before.stage) before.io after refusal

  -- a call under this Gate has come to the object, which is untouched, or it was refused
  abbrev pub Arrives : Gate → Cancellable I → Cancellable I → Option (Poll Refused) → Type 0
  Arrives gate before after None =
      (is_open (advanced gate before.stage) ≡ true) × (after ≡ record { stage = advanced gate before.stage; io = before.io })
  Arrives gate before after (Some refusal) = Closed gate before after refusal

  -- one call of the machine: in Active and in Grace it calls the object and hands the answer on, and else it refuses
  abbrev pub Cancels : {T : Type 0} → (I → Poll T → I → Type 0) → Gate → Cancellable I → Cancellable I → Poll (Result T Refused)
      → Type 0
  Cancels {T} call gate before after answer =
      ((is_open (advanced gate before.stage) ≡ true)
      × (after.stage ≡ advanced gate before.stage)
      × ((r : Poll T) × call before.io r after.io × (answer ≡ granted r)))
      ⊎ ((refusal : Poll Refused) × Closed gate before after refusal × (answer ≡ withheld refusal))

  -- one read is one call of the machine, which reads the object once under this Gate, with this room
  abbrev pub ReadsCut : Polled I → Polled (Cancellable I)
  ReadsCut polled before gate room answer after =
      ((is_open (advanced gate before.stage) ≡ true) × (after.stage ≡ advanced gate before.stage)
      × polled before.io gate room answer after.io)
      ⊎ ((refusal : Poll Refused) × Closed gate before after refusal × (answer ≡ refused_read refusal))

  -- a shutdown asks the object, whose stage stays; one that is gone is not asked any more, and is shut down
  abbrev pub ShutsCut : Bool → Cancellable I → Poll (Unit {0}) → Cancellable I → Type 0
  ShutsCut true before answer after = (after ≡ before) × (answer ≡ Ready tt)
  ShutsCut false before answer after = (after.stage ≡ before.stage) × shuts before.io answer after.io
