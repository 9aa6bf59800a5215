-- What a state holds that gathers the bytes of an opened body, and what it answers.
use Rattle.std.specs.Option.{ForSome}
use Rattle.std.specs.Prelude.{◌≡◌, ⊤, ℕ, ◌+◌, ◌≤◌, ◌<◌, ◌++◌, Bool, true, false, List, length, take, drop, Option, None, Some, Result, Ok, Err, Vec}
use Rattle.std.specs.declared.alloc.Global.{Global}
use Rattle.rkt_base.specs.declared.poll.Poll.{Poll}
use Rattle.rkt_base.specs.declared.poll.Poll.TheVariants.{Ready, Pending}
use Rattle.rkt_source.specs.Source.{Meaning, Polled}
use Rattle.rkt_data.specs.Stream.{Opened, Piped, Follows, TakesAtMost, IsComplete, cut, whole_of}
use Rattle.rkt_data.specs.CountedSource.{ByGate, Ending, TapErrs, TapWaits, ended, gave}
use Rattle.rkt_data.specs.declared.capped.Capped.{Capped}
use Rattle.rkt_data.specs.declared.capped.N.{N}
use Rattle.rkt_data.specs.declared.drain.Drained.{Drained}
use Rattle.rkt_data.specs.declared.drain.Drained.TheVariants as drained
use Rattle.rkt_data.specs.declared.error.DataError.{DataError}
use Rattle.rkt_data.specs.declared.error.DataError.TheVariants as error
use Rattle.rkt_data.specs.declared.into_bytes.Finished.{Finished}
use Rattle.rkt_data.specs.declared.into_bytes.Finished.TheVariants as finished
use Rattle.rkt_source.specs.declared.source.Gate.{Gate}
use Rattle.rkt_source.specs.declared.source.SourceError.{SourceError}
use Rattle.rkt_source.specs.declared.source.SourceError.TheVariants as source_error
use Rattle.rkt_data.specs.declared.counted_source.Stop.{Stop}
use Rattle.rkt_data.specs.declared.counted_source.Stop.TheVariants as stop

pub record Gathering (S : Type 0) : Type 0 where
  pub stream : Opened S
  -- how many bytes the stream had given before the state was made
  pub from : ℕ
  -- the bytes read since
  pub got : List ℕ
  pub failed : Option DataError
  pub done : Bool

abbrev pub data_error_of : SourceError → DataError
data_error_of source_error.SourceFault = error.SourceFault
data_error_of source_error.Gone = error.Gone
data_error_of source_error.TimedOut = error.TimedOut

-- what an error tells of the reads: only one of the source ends them
abbrev pub cause_of : DataError → Result Bool SourceError
cause_of error.SourceFault = Err source_error.SourceFault
cause_of error.Gone = Err source_error.Gone
cause_of error.TimedOut = Err source_error.TimedOut
cause_of (error.NotUtf8 valid_up_to) = Ok true
cause_of error.SinkFault = Ok false
cause_of error.NoMemory = Ok false

-- what each error means: one of the source by the source, a fault of the sink by the sink, and so on
abbrev pub Causes : (SourceError → Type 0) → Type 0 → (ℕ → Type 0) → Type 0 → DataError → Type 0
Causes source sink text memory error.SourceFault = source source_error.SourceFault
Causes source sink text memory error.Gone = source source_error.Gone
Causes source sink text memory error.TimedOut = source source_error.TimedOut
Causes source sink text memory (error.NotUtf8 valid_up_to) = text valid_up_to
Causes source sink text memory error.SinkFault = sink
Causes source sink text memory error.NoMemory = memory

-- what the answer of a state tells of the reads
abbrev pub reads_end : {X : Type 0} → Poll (Result X DataError) → Ending
reads_end Pending = Pending
reads_end (Ready (Ok x)) = ended
reads_end (Ready (Err e)) = Ready (cause_of e)

-- the bytes of a body from a position on, up to a limit
abbrev pub cut_from : ℕ → List ℕ → ℕ → List ℕ
cut_from from b limit = drop from (cut b limit)

-- these bytes were read behind what had been given
pub record Gained {S : Type 0} (meaning : S → Meaning) (o p : Opened S) (more : List ℕ) : Type 0 where
  pub count : p.given ≡ o.given + length more
  pub bytes : ForSome (whole_of meaning o) (λ b. more ≡ take (length more) (drop o.given b))

-- several reads of an opened body under one Gate that have ended so, by which the bytes that a buffer holds became more
pub record Draws {S : Type 0} (meaning : S → Meaning) (polled : Polled S) (gate : Gate) (how : Ending) (o p : Piped S)
    (old new : List ℕ) : Type 0 where
  pub follows : Follows meaning gate.tripped o.opened p.opened
  pub by_gate : ByGate polled gate how o.opened.tap p.opened.tap
  pub bound : TakesAtMost meaning p.opened p.opened.limit
  pub not_probed : p.probed ≡ false
  pub gained : (more : List ℕ) × (new ≡ old ++ more) × Gained meaning o.opened p.opened more
  -- the end was not met where all up to the limit was given
  pub unmet : p.opened.limit ≤ p.opened.given → how ≡ ended → ByGate polled gate gave o.opened.tap p.opened.tap

-- the bytes gathered are those read since the state was made
pub record Gathered {S : Type 0} (meaning : S → Meaning) (o : Opened S) (from : ℕ) (got : List ℕ) : Type 0 where
  pub count : o.given ≡ from + length got
  pub bytes : ForSome (whole_of meaning o) (λ b. got ≡ take (length got) (drop from b))

-- all bytes up to the limit were given
abbrev pub IsUsedUp : {S : Type 0} → (S → Meaning) → Opened S → Type 0
IsUsedUp meaning o = o.given < o.limit → ForSome (whole_of meaning o) (λ b. length b ≤ o.given)

-- why filling a buffer of this length stopped, which has n bytes now
abbrev pub Pours : {S : Type 0} → (S → Meaning) → Opened S → Opened S → ℕ → ℕ → Stop → Type 0
Pours meaning o p room n stop.Full = n ≡ room
Pours meaning o p room n stop.End = IsUsedUp meaning p
Pours meaning o p room n (stop.Failed e) = TapErrs meaning e o.tap p.tap × (p.given < p.limit)
Pours meaning o p room n stop.Waiting = TapWaits meaning o.tap p.tap

-- why reading all up to the limit stopped
abbrev pub Drains : {S : Type 0} → (S → Meaning) → Opened S → Opened S → Drained → Type 0
Drains meaning o p drained.End = IsUsedUp meaning p
Drains meaning o p (drained.Failed e) = TapErrs meaning e o.tap p.tap × (p.given < p.limit)
Drains meaning o p drained.Waiting = TapWaits meaning o.tap p.tap
Drains meaning o p drained.NoMemory = ⊤

-- how the reads have ended then
abbrev pub drained_end : Drained → Ending
drained_end drained.End = ended
drained_end (drained.Failed e) = Ready (Err e)
drained_end drained.Waiting = Pending
drained_end drained.NoMemory = gave

-- whether the body has no more than its limit
abbrev pub Closes : {S : Type 0} → (S → Meaning) → Piped S → Piped S → Poll (Result Bool SourceError) → Type 0
Closes meaning o p Pending = (p.probed ≡ false) × TapWaits meaning o.opened.tap p.opened.tap
Closes meaning o p (Ready (Err e)) =
    (p.probed ≡ false) × (p.opened.given ≡ p.opened.limit) × TapErrs meaning e o.opened.tap p.opened.tap
Closes meaning o p (Ready (Ok complete)) = ForSome (whole_of meaning o.opened) (λ b. IsComplete complete b o.opened.limit)

-- when a reading of bytes may fail with each error
abbrev pub BytesErr : {S : Type 0} → (S → Meaning) → Opened S → Opened S → DataError → Type 0
BytesErr meaning o p e = Causes (λ cause. TapErrs meaning cause o.tap p.tap) ⊥ (λ valid_up_to. ⊥) ⊤ e

-- how far a poll has come
abbrev pub Finishes : {S : Type 0} → (S → Meaning) → Piped S → Piped S → Finished → Type 0
Finishes meaning o p (finished.Bytes complete) =
    IsUsedUp meaning p.opened
    × (p.opened.given ≤ p.opened.limit)
    × ForSome (whole_of meaning o.opened) (λ b. IsComplete complete b o.opened.limit)
Finishes meaning o p finished.Waiting = (p.probed ≡ false) × TapWaits meaning o.opened.tap p.opened.tap
Finishes meaning o p (finished.Failed e) = BytesErr meaning o.opened p.opened e

-- how the reads have ended then
abbrev pub finished_end : Finished → Ending
finished_end (finished.Bytes complete) = ended
finished_end finished.Waiting = Pending
finished_end (finished.Failed e) = Ready (cause_of e)

-- until its last answer a state holds what was read so far, and nothing past the limit was read
abbrev pub Gathers : {S : Type 0} → (S → Meaning) → Piped S → ℕ → List ℕ → Option DataError → Bool → Type 0
Gathers meaning p from got (Some e) done = ⊤
Gathers meaning p from got None true = ⊤
Gathers meaning p from got None false = Gathered meaning p.opened from got × (p.probed ≡ false)

-- the value is the body from that position on, cut at the limit; n counts it and says whether the body has no more
abbrev pub Completes : {S : Type 0} → (S → Meaning) → Opened S → ℕ → List ℕ → N → Type 0
Completes meaning o from value n =
    (n.written ≡ length value)
    × ForSome (whole_of meaning o) (λ b. (value ≡ cut_from from b o.limit) × IsComplete n.complete b o.limit)

-- what a poll answers that gathers bytes
abbrev pub GathersBytes : {S : Type 0} → (S → Meaning) → Gathering S → Gathering S
    → Poll (Result (Capped (Vec ℕ Global)) DataError) → Type 0
GathersBytes meaning a b Pending = (b.failed ≡ None) × (b.done ≡ false) × TapWaits meaning a.stream.tap b.stream.tap
GathersBytes meaning a b (Ready (Err e)) = (b.failed ≡ Some e) × (b.done ≡ false) × BytesErr meaning a.stream b.stream e
GathersBytes meaning a b (Ready (Ok c)) = (b.done ≡ true) × Completes meaning a.stream a.from c.value.items c.n
