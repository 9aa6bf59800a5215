-- What whole reads and writes leave.
use Rattle.std.specs.Prelude.{◌≡◌, ◌<◌, ◌≤◌, ◌⊎◌, ℕ, ◌+◌, ◌++◌, false, List, [], length, take, drop, Result, Ok, Err}
use Rattle.std.specs.Option.{ForSome}
use Rattle.rkt_base.specs.Counts.{Rose}
use Rattle.rkt_base.specs.declared.poll.Poll.{Poll}
use Rattle.rkt_base.specs.declared.poll.Poll.TheVariants.{Ready, Pending}
use Rattle.rkt_source.specs.Sink.{SinkMeaning, Gains, RefusesPiece}
use Rattle.rkt_source.specs.Source.{Meaning, Polled, ReadOnce}
use Rattle.rkt_source.specs.declared.sink.SinkError.{SinkError}
use Rattle.rkt_source.specs.declared.sink.SinkError.TheVariants as sink_error
use Rattle.rkt_source.specs.declared.source.Gate.{Gate}
use Rattle.rkt_source.specs.declared.source.SourceError.{SourceError}
use Rattle.rkt_source.specs.declared.source.SourceError.TheVariants as source_error
use Rattle.rkt_script.specs.declared.stream.StreamError.{StreamError}
use Rattle.rkt_script.specs.declared.stream.StreamError.TheVariants as error

-- reads gave these bytes, of a source that was never warned
pub record Reads (before after : Meaning) (bytes : List ℕ) : Type 0 where
  pub whole : after.whole ≡ before.whole
  pub next : ForSome before.whole (λ whole. bytes ≡ take (length bytes) (drop before.taken whole))
  pub taken : after.taken ≡ before.taken + length bytes
  pub faults : before.faults ≤ after.faults
  pub unwarned : after.warned ≡ false

-- the source has given all that it holds
abbrev pub IsAtEnd : Meaning → Type 0
IsAtEnd source = ForSome source.whole (λ whole. source.taken ≡ length whole)

-- the source has given all that it holds, or this many bytes since
abbrev pub IsReadTo : ℕ → Meaning → Meaning → Type 0
IsReadTo most before after = IsAtEnd after ⊎ (after.taken ≡ before.taken + most)

-- the sink has taken some front of these bytes
abbrev pub GainsFront : SinkMeaning → SinkMeaning → List ℕ → Type 0
GainsFront before after bytes = (n : ℕ) × Gains before after (take n bytes)

-- any number of reads under this Gate that were Pending lead from the first to the second
pub data Awaits {S : Type 0} (polled : Polled S) (gate : Gate) : S → S → Type 0 where
  none : {s : S} → Awaits polled gate s s
  more : {s t u : S} → Awaits polled gate s t → ReadOnce polled gate Pending t u → Awaits polled gate s u

-- a read under this Gate, which is made again while it is Pending, is answered so
abbrev pub AnswersRead : {S : Type 0} → Polled S → Gate → Result ℕ SourceError → S → S → Type 0
AnswersRead polled gate answer s t = (r : _) × Awaits polled gate s r × ReadOnce polled gate (Ready answer) r t

-- one read, by what is told of it
abbrev pub ReadsOnce : {S : Type 0} → Polled S → Gate → Result ℕ StreamError → S → S → Type 0
ReadsOnce polled gate (Ok n) s t = AnswersRead polled gate (Ok n) s t
ReadsOnce polled gate (Err error.Fault) s t = AnswersRead polled gate (Err source_error.SourceFault) s t
ReadsOnce polled gate (Err error.NoMemory) s t = ⊥

-- any number of such reads, each of which gave bytes, lead from the first to the second
pub data ReadsOn {S : Type 0} (polled : Polled S) (gate : Gate) : S → S → Type 0 where
  none : {s : S} → ReadsOn polled gate s s
  more : {s t u : S} {n : ℕ} → ReadsOn polled gate s t → 0 < n → AnswersRead polled gate (Ok n) t u → ReadsOn polled gate s u

-- behind such reads the last one was answered so
abbrev pub ReadsBefore : {S : Type 0} → Polled S → Gate → Result ℕ SourceError → S → S → Type 0
ReadsBefore polled gate answer s t = (r : _) × ReadsOn polled gate s r × AnswersRead polled gate answer r t

-- such reads, and maybe a last one that met the end: nothing was read behind that
abbrev pub ReadsToEnd : {S : Type 0} → Polled S → Gate → S → S → Type 0
ReadsToEnd polled gate s t = ReadsOn polled gate s t ⊎ ReadsBefore polled gate (Ok 0) s t

-- such reads, and then one that the source refused
abbrev pub ReadsUntil : {S : Type 0} → Polled S → Gate → S → S → Type 0
ReadsUntil polled gate s t = ReadsBefore polled gate (Err source_error.SourceFault) s t

-- what an answer tells of the reads: none but the last was refused or met the end, and a fault is that one's
abbrev pub ReadsAs : {S X : Type 0} → Polled S → Gate → Result X StreamError → S → S → Type 0
ReadsAs polled gate (Ok x) s t = ReadsToEnd polled gate s t
ReadsAs polled gate (Err error.Fault) s t = ReadsUntil polled gate s t
ReadsAs polled gate (Err error.NoMemory) s t = ReadsToEnd polled gate s t

-- any number of writes, each of which was Pending or took some bytes of the front of its piece, lead from the first to the
-- second; these are the bytes
pub data WritesOn {K : Type 0} (written : K → List ℕ → Poll (Result ℕ SinkError) → K → Type 0) : K → List ℕ → K → Type 0 where
  none : {k : K} → WritesOn written k [] k
  waits : {k l m : K} {bytes piece : List ℕ}
      → WritesOn written k bytes l
      → written l piece Pending m
      → WritesOn written k bytes m
  more : {k l m : K} {bytes piece : List ℕ} {n : ℕ}
      → WritesOn written k bytes l
      → 0 < n
      → written l piece (Ready (Ok n)) m
      → WritesOn written k (bytes ++ take n piece) m

-- such writes of a front of the bytes, and then the sink refused what was left
abbrev pub WritesUntil : {K : Type 0} → (K → List ℕ → Poll (Result ℕ SinkError) → K → Type 0) → SinkError → K → List ℕ → K
    → Type 0
WritesUntil written e k bytes l =
    (n : ℕ) × (m : _) × (n < length bytes) × WritesOn written k (take n bytes) m × RefusesPiece written e m (drop n bytes) l

-- what an answer tells of the writes of these bytes
abbrev pub WritesAs : {K X : Type 0} → (K → List ℕ → Poll (Result ℕ SinkError) → K → Type 0) → Result X StreamError → K → List ℕ
    → K → Type 0
WritesAs written (Ok x) k bytes l = WritesOn written k bytes l
WritesAs written (Err error.Fault) k bytes l = WritesUntil written sink_error.SinkFault k bytes l
WritesAs written (Err error.NoMemory) k bytes l = WritesUntil written sink_error.NoMemory k bytes l

module _ {K : Type 0} (meaning : K → SinkMeaning) (written : K → List ℕ → Poll (Result ℕ SinkError) → K → Type 0) where
  -- a sink has taken all of these bytes, and refused none of the writes
  abbrev pub Takes : K → List ℕ → K → Type 0
  Takes before bytes after = Gains (meaning before) (meaning after) bytes × WritesOn written before bytes after

  -- a sink has taken some front of these bytes, and then refused what was left
  abbrev pub Refuses : K → List ℕ → K → Type 0
  Refuses before bytes after = Rose (meaning before).faults (meaning after).faults
      × GainsFront (meaning before) (meaning after) bytes × WritesUntil written sink_error.SinkFault before bytes after

  -- a sink has taken some front of these bytes, and then found no memory for what was left
  abbrev pub RunsOut : K → List ℕ → K → Type 0
  RunsOut before bytes after = GainsFront (meaning before) (meaning after) bytes
      × WritesUntil written sink_error.NoMemory before bytes after

  -- it has taken all of them, unless it refused
  abbrev pub TakesUnlessRefused : K → List ℕ → K → Type 0
  TakesUnlessRefused before bytes after = Takes before bytes after ⊎ Refuses before bytes after
