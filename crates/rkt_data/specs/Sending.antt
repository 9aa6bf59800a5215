-- What a state holds that sends an opened body to a sink, and what it answers.
use Rattle.std.specs.Option.{ForSome}
use Rattle.std.specs.Prelude.{◌≡◌, ⊤, ℕ, ◌+◌, ◌-◌, ◌<◌, ◌≤◌, ◌⊎◌, ◌++◌, Bool, true, false, List, [], length, take, drop, Option, None, Some, Result, Ok, Err, Vec}
use Rattle.std.specs.declared.alloc.Global.{Global}
use Rattle.rkt_base.specs.declared.poll.Poll.{Poll}
use Rattle.rkt_base.specs.declared.poll.Poll.TheVariants.{Ready, Pending}
use Rattle.rkt_data.specs.Gathering.{Causes, Gained, Gathered, IsUsedUp, cut_from}
use Rattle.rkt_source.specs.Sink.{SinkMeaning, SinkKeeps, SinkWaits, SinkFaulted, SinkErrs, Gains, FeedEnding, FeedsTo}
use Rattle.rkt_source.specs.Source.{Meaning, Polled}
use Rattle.rkt_data.specs.Stream.{Opened, Piped, Follows, TakesAtMost, IsComplete, whole_of}
use Rattle.rkt_data.specs.CountedSource.{Tapped, ByGate, Ending, TapErrs, TapWaits, gave}
use Rattle.rkt_data.specs.declared.capped.N.{N}
use Rattle.rkt_data.specs.declared.error.DataError.{DataError}
use Rattle.rkt_data.specs.declared.error.DataError.TheVariants as error
use Rattle.rkt_data.specs.declared.copy.Copied.{Copied}
use Rattle.rkt_data.specs.declared.copy.Copied.TheVariants as pumped
use Rattle.rkt_data.specs.declared.copy.Sent.{Sent}
use Rattle.rkt_data.specs.declared.copy.Sent.TheVariants as sent
use Rattle.rkt_source.specs.declared.sink.SinkError.{SinkError}
use Rattle.rkt_source.specs.declared.sink.SinkError.TheVariants as sink_error
use Rattle.rkt_source.specs.declared.source.Gate.{Gate}

-- a sink as it is now, and as it was handed in
pub record Fed (K : Type 0) : Type 0 where
  pub now : K
  pub begun : K

pub record Sending (S K : Type 0) : Type 0 where
  pub stream : Opened S
  pub sink : Fed K
  -- how many bytes the stream had given before the state was made
  pub from : ℕ
  -- how many were sent since
  pub sent : ℕ
  pub failed : Option DataError
  pub done : Bool

-- what a sender holds: besides those, the bytes that were read and not sent yet
pub record SentState (S K : Type 0) : Type 0 where
  pub piped : Piped S
  pub sink : Fed K
  pub from : ℕ
  pub pending : List ℕ

-- the bytes of a buffer between two places
abbrev pub between : ℕ → ℕ → List ℕ → List ℕ
between at end buf = take (end - at) (drop at buf)

-- what was sent and what is pending are the bytes read since the sender was made; the sink has gained what was sent
abbrev pub SentOf : {S K : Type 0} → (S → Meaning) → (K → SinkMeaning) → Opened S → Fed K → ℕ → List ℕ → Type 0
SentOf meaning sinks o fed from pending =
    (out : List ℕ) × Gathered meaning o from (out ++ pending) × Gains (sinks fed.begun) (sinks fed.now) out

-- a buffer, where there is one, is not empty
abbrev pub HasRoom : Option (Vec ℕ Global) → Type 0
HasRoom None = ⊤
HasRoom (Some v) = 0 < length v.items

-- the sink has gained the first bytes of the body from that position on, cut at the limit, as many as were sent
abbrev pub Sends : {S K : Type 0} → (S → Meaning) → (K → SinkMeaning) → Opened S → Fed K → ℕ → ℕ → Type 0
Sends meaning sinks o fed from n =
    (out : List ℕ)
    × (length out ≡ n)
    × Gains (sinks fed.begun) (sinks fed.now) out
    × ForSome (whole_of meaning o) (λ b. out ≡ take n (cut_from from b o.limit))

-- how sending one piece stopped, n bytes of which were taken
abbrev pub SendStops : {K : Type 0} → (K → SinkMeaning) → K → K → ℕ → ℕ → Sent → Type 0
SendStops sinks k l size n sent.All = n ≡ size
SendStops sinks k l size n sent.Waiting = SinkWaits (sinks k) (sinks l)
SendStops sinks k l size n (sent.Failed e) = SinkErrs e (sinks k) (sinks l)

abbrev pub sink_error_of : SinkError → DataError
sink_error_of sink_error.SinkFault = error.SinkFault
sink_error_of sink_error.NoMemory = error.NoMemory

-- how sending one piece has ended
abbrev pub sent_end : Sent → FeedEnding
sent_end sent.All = Ready (Ok tt)
sent_end sent.Waiting = Pending
sent_end (sent.Failed e) = Ready (Err e)

-- the reads of a call were under this Gate alone and have ended so, and so have its writes, by which the sink took these bytes
abbrev pub Calls : {S K : Type 0} → Polled S → (K → List ℕ → Poll (Result ℕ SinkError) → K → Type 0) → Gate → Ending
    → FeedEnding → Option (Tapped S) → Option (Tapped S) → K → List ℕ → K → Type 0
Calls polled written gate reads writes t u k bytes l = ByGate polled gate reads t u × FeedsTo written writes k bytes l

-- an answer without its value: of one that is no error, that the end may have been met
abbrev pub outcome_of : {X : Type 0} → Poll (Result X DataError) → Poll (Result Bool DataError)
outcome_of Pending = Pending
outcome_of (Ready (Ok x)) = Ready (Ok true)
outcome_of (Ready (Err e)) = Ready (Err e)

-- what the answer of a call tells of its reads and writes: none was refused or Pending but the last, of which the answer comes;
-- for want of memory there may be no such call, and the end may have been met only where nothing is left to be sent
abbrev pub CallsAs : {S K : Type 0} → Polled S → (K → List ℕ → Poll (Result ℕ SinkError) → K → Type 0) → Gate
    → Poll (Result Bool DataError) → Option (Tapped S) → Option (Tapped S) → K → List ℕ → K → Type 0
CallsAs polled written gate Pending t u k bytes l =
    Calls polled written gate Pending (Ready (Ok tt)) t u k bytes l ⊎ Calls polled written gate gave Pending t u k bytes l
CallsAs polled written gate (Ready (Ok over)) t u k bytes l =
    Calls polled written gate (Ready (Ok over)) (Ready (Ok tt)) t u k bytes l
CallsAs polled written gate (Ready (Err e)) t u k bytes l = Causes
    (λ cause. Calls polled written gate (Ready (Err cause)) (Ready (Ok tt)) t u k bytes l)
    (Calls polled written gate gave (Ready (Err sink_error.SinkFault)) t u k bytes l)
    (λ valid_up_to. ⊥)
    (Calls polled written gate gave (Ready (Ok tt)) t u k bytes l
    ⊎ Calls polled written gate gave (Ready (Err sink_error.NoMemory)) t u k bytes l)
    e

-- reads and writes of a call that answers so, by which the bytes that are pending became others: what was pending and what was
-- read is what was sent and what is pending now
pub record Pumps {S K : Type 0} (meaning : S → Meaning) (polled : Polled S) (sinks : K → SinkMeaning)
    (written : K → List ℕ → Poll (Result ℕ SinkError) → K → Type 0) (gate : Gate) (answer : Poll (Result Bool DataError))
    (o p : Piped S) (k l : K) (old new : List ℕ) : Type 0 where
  pub follows : Follows meaning gate.tripped o.opened p.opened
  pub bound : TakesAtMost meaning p.opened p.opened.limit
  pub not_probed : p.probed ≡ false
  pub keeps : SinkKeeps (sinks k) (sinks l)
  pub more : List ℕ
  pub out : List ℕ
  pub gained : Gained meaning o.opened p.opened more
  pub moved : old ++ more ≡ out ++ new
  pub gains : Gains (sinks k) (sinks l) out
  pub calls : CallsAs polled written gate answer o.opened.tap p.opened.tap k out l
  -- the end was not met where all up to the limit was given
  pub unmet : p.opened.limit ≤ p.opened.given → answer ≡ Ready (Ok true)
      → CallsAs polled written gate (Ready (Ok false)) o.opened.tap p.opened.tap k out l

-- reads and writes of a call that answers so, by which the sink took the bytes of the body between two positions
pub record SendsNext {S K : Type 0} (meaning : S → Meaning) (polled : Polled S)
    (written : K → List ℕ → Poll (Result ℕ SinkError) → K → Type 0) (gate : Gate) (answer : Poll (Result Bool DataError))
    (o p : Opened S) (k l : K) (at next : ℕ) : Type 0 where
  pub bytes : List ℕ
  pub calls : CallsAs polled written gate answer o.tap p.tap k bytes l
  pub count : next ≡ at + length bytes
  pub are : ForSome (whole_of meaning o) (λ b. bytes ≡ take (length bytes) (drop at b))

-- a poll that answers so sent the next bytes of the body
abbrev pub SendsBy : {S K X : Type 0} → (S → Meaning) → Polled S → (K → List ℕ → Poll (Result ℕ SinkError) → K → Type 0) → Gate
    → Poll (Result X DataError) → Sending S K → Sending S K → Type 0
SendsBy meaning polled written gate answer a b =
    SendsNext meaning polled written gate (outcome_of answer) a.stream b.stream a.sink.now b.sink.now (a.from + a.sent)
    (b.from + b.sent)

-- how far into the body a sender has sent
abbrev pub place_of : {S K : Type 0} → SentState S K → ℕ
place_of a = a.from + (a.piped.opened.given - (a.from + length a.pending))

-- a sender that answers so sent the next bytes of the body
abbrev pub SenderSends : {S K : Type 0} → (S → Meaning) → Polled S → (K → List ℕ → Poll (Result ℕ SinkError) → K → Type 0)
    → Gate
    → Poll (Result Bool DataError) → SentState S K → SentState S K → Type 0
SenderSends meaning polled written gate answer a b =
    SendsNext meaning polled written gate answer a.piped.opened b.piped.opened a.sink.now b.sink.now (place_of a) (place_of b)

-- when sending may fail with each error
abbrev pub SendErr : {S K : Type 0} → (S → Meaning) → (K → SinkMeaning) → Opened S → Opened S → K → K → DataError → Type 0
SendErr meaning sinks o p k l e =
    Causes (λ cause. TapErrs meaning cause o.tap p.tap) (SinkFaulted (sinks k) (sinks l)) (λ valid_up_to. ⊥) ⊤ e

-- the source or the sink was Pending
abbrev pub SendWaits : {S K : Type 0} → (S → Meaning) → (K → SinkMeaning) → Opened S → Opened S → K → K → Type 0
SendWaits meaning sinks o p k l = TapWaits meaning o.tap p.tap ⊎ SinkWaits (sinks k) (sinks l)

-- why sending stopped
abbrev pub PumpStops : {S K : Type 0} → (S → Meaning) → (K → SinkMeaning) → Opened S → Opened S → K → K → List ℕ → Copied
    → Type 0
PumpStops meaning sinks o p k l pending pumped.Done = IsUsedUp meaning p × (pending ≡ [])
PumpStops meaning sinks o p k l pending pumped.Waiting = SendWaits meaning sinks o p k l
PumpStops meaning sinks o p k l pending (pumped.Failed e) = SendErr meaning sinks o p k l e

-- what sending answers then
abbrev pub pumped_answer : Copied → Poll (Result Bool DataError)
pumped_answer pumped.Done = Ready (Ok true)
pumped_answer pumped.Waiting = Pending
pumped_answer (pumped.Failed e) = Ready (Err e)

-- until its last answer nothing past the limit was read
abbrev pub SendsOn : Bool → Option DataError → Bool → Type 0
SendsOn probed (Some e) done = ⊤
SendsOn probed None true = ⊤
SendsOn probed None false = probed ≡ false

-- all of the body from that position on, cut at the limit, was sent
abbrev pub SentAll : {S : Type 0} → (S → Meaning) → Opened S → ℕ → ℕ → Type 0
SentAll meaning o from n = ForSome (whole_of meaning o) (λ b. n ≡ length (cut_from from b o.limit))

-- what a poll answers that sends
abbrev pub AnswersSent : {S K : Type 0} → (S → Meaning) → (K → SinkMeaning) → Sending S K → Sending S K
    → Poll (Result N DataError) → Type 0
AnswersSent meaning sinks a b Pending =
    (b.failed ≡ None) × (b.done ≡ false) × SendWaits meaning sinks a.stream b.stream a.sink.now b.sink.now
AnswersSent meaning sinks a b (Ready (Err e)) =
    (b.failed ≡ Some e) × (b.done ≡ false) × SendErr meaning sinks a.stream b.stream a.sink.now b.sink.now e
AnswersSent meaning sinks a b (Ready (Ok n)) =
    (b.done ≡ true)
    × (n.written ≡ b.sent)
    × SentAll meaning a.stream a.from b.sent
    × ForSome (whole_of meaning a.stream) (λ w. IsComplete n.complete w a.stream.limit)

-- what a poll answers that sends and does not look past the limit
abbrev pub AnswersPrecise : {S K : Type 0} → (S → Meaning) → (K → SinkMeaning) → Sending S K → Sending S K
    → Poll (Result ℕ DataError) → Type 0
AnswersPrecise meaning sinks a b Pending =
    (b.failed ≡ None) × (b.done ≡ false) × SendWaits meaning sinks a.stream b.stream a.sink.now b.sink.now
AnswersPrecise meaning sinks a b (Ready (Err e)) =
    (b.failed ≡ Some e) × (b.done ≡ false) × SendErr meaning sinks a.stream b.stream a.sink.now b.sink.now e
AnswersPrecise meaning sinks a b (Ready (Ok written)) =
    (b.done ≡ true) × (written ≡ b.sent) × SentAll meaning a.stream a.from b.sent
