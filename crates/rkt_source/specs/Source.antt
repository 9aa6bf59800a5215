-- What a source means, and what one poll of it may do.
use Rattle.std.specs.Option.{ForSome}
use Rattle.std.specs.Prelude.{◌≡◌, ℕ, ◌+◌, ◌<◌, ◌≤◌, ◌⊎◌, Bool, false, IsTrue, List, length, take, drop, ◌++◌, Option, None, Some, option_map, IsSome, Result, Ok, Err}
use Rattle.rkt_base.specs.Counts.{Rose}
use Rattle.rkt_base.specs.declared.poll.Poll.{Poll}
use Rattle.rkt_base.specs.declared.poll.Poll.TheVariants.{Ready, Pending}
use Rattle.rkt_source.specs.declared.source.Gate.{Gate}
use Rattle.rkt_source.specs.declared.source.SourceError.{SourceError}
use Rattle.rkt_source.specs.declared.source.SourceError.TheVariants.{SourceFault, Gone, TimedOut}

pub record Meaning : Type 0 where
  -- all its bytes, from its beginning to its end, where it tells them
  pub whole : Option (List ℕ)
  -- how many of them it has given
  pub taken : ℕ
  -- how often it has failed
  pub faults : ℕ
  -- it says that it never fails
  pub never_faults : Bool
  -- a Gate with a trip was shown to it
  pub warned : Bool
  -- it gives no more, since it was cut off or shut
  pub shut : Bool
  -- how many of its polls were Pending, and a bound on that
  pub pended : ℕ
  pub pendings : ℕ

-- what no read changes, and how the rest may change under a Gate with this trip
pub record Keeps (trip : Option ℕ) (m n : Meaning) : Type 0 where
  pub whole : n.whole ≡ m.whole
  pub never_faults : n.never_faults ≡ m.never_faults
  pub pendings : n.pendings ≡ m.pendings
  pub faults : m.faults ≤ n.faults
  pub pended : m.pended ≤ n.pended
  pub warned : IsTrue n.warned → IsTrue m.warned ⊎ IsSome trip
  pub still_warned : IsTrue m.warned → IsTrue n.warned
  pub still_shut : IsTrue m.shut → IsTrue n.shut

-- of a source before a read into a buffer of this length, the Gate that it was shown, the answer, and the source after it
abbrev pub Polled : Type 0 → Type 1
Polled S = S → Gate → ℕ → Poll (Result ℕ SourceError) → S → Type 0

-- the source was read once under this Gate with this answer, into a buffer of some length
abbrev pub ReadOnce : {S : Type 0} → Polled S → Gate → Poll (Result ℕ SourceError) → S → S → Type 0
ReadOnce polled gate answer s t = (room : ℕ) × (0 < room) × polled s gate room answer t

-- the bytes that a source has still to give
abbrev pub left_of : Meaning → Option (List ℕ)
left_of m = option_map (drop m.taken) m.whole

-- bytes behind others, told where both are
abbrev pub both : Option (List ℕ) → Option (List ℕ) → Option (List ℕ)
both None y = None
both (Some a) None = None
both (Some a) (Some b) = Some (a ++ b)

-- one poll more was Pending
abbrev pub Waits : Meaning → Meaning → Type 0
Waits m n = (m.pended < n.pended) × (n.pended ≤ m.pendings)

-- a shutdown changes nothing but the count of Pendings
abbrev pub Shuts : Meaning → Poll (Unit {0}) → Meaning → Type 0
Shuts m Pending n = (n ≡ record m { pended = n.pended }) × Waits m n
Shuts m (Ready r) n = n ≡ m

-- a fault comes where the count rose, of a source that does not say that it never fails
abbrev pub Faulted : Meaning → Meaning → Type 0
Faulted m n = Rose m.faults n.faults × (m.never_faults ≡ false)

-- when each error may come
abbrev pub Errs : SourceError → Meaning → Meaning → Type 0
Errs SourceFault m n = Faulted m n
Errs Gone m n = IsTrue n.shut
Errs TimedOut m n = IsTrue n.shut

-- n bytes of the whole, from the position `at` on, stand at the front of a buffer; where there is none, that is the end
abbrev pub Gives : List ℕ → ℕ → ℕ → List ℕ → Type 0
Gives whole at n buf = (take n buf ≡ take n (drop at whole)) × (n ≡ 0 → at ≡ length whole)

-- what a read answers, into a buffer that held `old` and holds `new`
abbrev pub Answers : Meaning → Meaning → List ℕ → List ℕ → Poll (Result ℕ SourceError) → Type 0
Answers m n old new Pending = (n.taken ≡ m.taken) × Waits m n
Answers m n old new (Ready (Ok k)) =
    (k ≤ length old) × (n.taken ≡ m.taken + k) × (0 < length old → ForSome m.whole (λ w. Gives w m.taken k new))
Answers m n old new (Ready (Err e)) = (n.taken ≡ m.taken) × Errs e m n
