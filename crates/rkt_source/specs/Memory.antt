-- What the objects in memory keep, and what one call of them does.
use Rattle.std.specs.Prelude.{◌≡◌, ℕ, ◌+◌, ◌-◌, ◌^◌, ◌++◌, Bool, true, false, List, length, take, drop, min, Some, nat_eq, Result, Ok, Err}
use Rattle.std.specs.List.{list_any}
use Rattle.rkt_base.specs.declared.poll.Poll.{Poll}
use Rattle.rkt_base.specs.declared.poll.Poll.TheVariants.{Ready, Pending}
use Rattle.rkt_source.specs.Sink.{SinkMeaning}
use Rattle.rkt_source.specs.Source.{Meaning}
use Rattle.rkt_source.specs.declared.sink.SinkError.{SinkError}
use Rattle.rkt_source.specs.declared.sink.SinkError.TheVariants.{SinkFault, NoMemory}
use Rattle.rkt_source.specs.declared.source.SourceError.{SourceError}
use Rattle.rkt_source.specs.declared.source.SourceError.TheVariants.{SourceFault}

pub record SourceInMemory : Type 0 where
  pub bytes : List ℕ
  -- how many were given
  pub at : ℕ
  -- the most that one read gives
  pub chunk : ℕ
  -- the numbers of the calls that fail
  pub fails : List ℕ
  pub calls : ℕ
  pub faults : ℕ

pub record SinkInMemory : Type 0 where
  pub bytes : List ℕ
  -- the numbers of the calls that fail
  pub fails : List ℕ
  pub calls : ℕ
  pub faults : ℕ

abbrev pub source_meaning : SourceInMemory → Meaning
source_meaning s = record {
  whole = Some s.bytes;
  taken = s.at;
  faults = s.faults;
  never_faults = nat_eq (length s.fails) 0;
  warned = false;
  shut = false;
  pended = 0;
  pendings = 0;
}

abbrev pub sink_meaning : SinkInMemory → SinkMeaning
sink_meaning s =
    record { held = Some s.bytes; faults = s.faults; never_faults = nat_eq (length s.fails) 0; pended = 0; pendings = 0 }

-- the next count of a u64, which stays at its end
abbrev pub counted : ℕ → ℕ
counted n = min (n + 1) (2 ^ 64 - 1)

-- whether a call's number is in the list of those that fail
abbrev pub is_listed : List ℕ → ℕ → Bool
is_listed fails call = list_any (λ n. nat_eq n call) fails

-- the next bytes, as many as one read gives into this much room
abbrev pub next_bytes : SourceInMemory → ℕ → List ℕ
next_bytes s room = take (min s.chunk room) (drop s.at s.bytes)

abbrev pub ReadsUnless : Bool → SourceInMemory → SourceInMemory → List ℕ → List ℕ → Result ℕ SourceError → Type 0
ReadsUnless true s t old new answer =
    (t ≡ record s { calls = counted s.calls; faults = counted s.faults }) × (new ≡ old) × (answer ≡ Err SourceFault)
ReadsUnless false s t old new answer =
    let next = next_bytes s (length old) in
    (t ≡ record s { at = s.at + length next; calls = counted s.calls })
    × (new ≡ next ++ drop (length next) old)
    × (answer ≡ Ok (length next))

-- a read into a buffer that held `old` and holds `new`: the next bytes, or a fault where the call's number is listed
abbrev pub ReadsNext : SourceInMemory → SourceInMemory → List ℕ → List ℕ → Result ℕ SourceError → Type 0
ReadsNext s t old new answer = ReadsUnless (is_listed s.fails s.calls) s t old new answer

abbrev pub CountsUnless : Bool → SourceInMemory → ℕ → Poll (Result ℕ SourceError) → SourceInMemory → Type 0
CountsUnless true s room answer t =
    (t ≡ record s { calls = counted s.calls; faults = counted s.faults }) × (answer ≡ Ready (Err SourceFault))
CountsUnless false s room answer t =
    (t ≡ record s { at = s.at + length (next_bytes s room); calls = counted s.calls })
    × (answer ≡ Ready (Ok (length (next_bytes s room))))

-- a read with this much room: how many bytes it gives, which are the next ones, or a fault where the call's number is listed
abbrev pub ReadsCounted : SourceInMemory → ℕ → Poll (Result ℕ SourceError) → SourceInMemory → Type 0
ReadsCounted s room answer t = CountsUnless (is_listed s.fails s.calls) s room answer t

abbrev pub WritesUnless : Bool → SinkInMemory → SinkInMemory → List ℕ → Result ℕ SinkError → Type 0
WritesUnless true s t piece answer =
    (t ≡ record s { calls = counted s.calls; faults = counted s.faults }) × (answer ≡ Err SinkFault)
WritesUnless false s t piece (Ok n) = (t ≡ record s { bytes = s.bytes ++ piece; calls = counted s.calls }) × (n ≡ length piece)
WritesUnless false s t piece (Err e) = (t ≡ record s { calls = counted s.calls }) × (e ≡ NoMemory)

-- a write of a piece: all of it, or want of memory, or a fault where the call's number is listed
abbrev pub WritesAll : SinkInMemory → SinkInMemory → List ℕ → Result ℕ SinkError → Type 0
WritesAll s t piece answer = WritesUnless (is_listed s.fails s.calls) s t piece answer

-- what a write answers, which is never Pending
abbrev pub WritesAtOnce : SinkInMemory → List ℕ → Poll (Result ℕ SinkError) → SinkInMemory → Type 0
WritesAtOnce s piece Pending t = ⊥
WritesAtOnce s piece (Ready answer) t = WritesAll s t piece answer
