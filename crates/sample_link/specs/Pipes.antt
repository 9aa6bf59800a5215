-- What the ends of a pipe mean.
use Rattle.std.specs.Prelude.{◌≡◌, ℕ, ◌+◌, ◌-◌, ◌<◌, ◌≤◌, ◌++◌, false, List, length, min, take, Some, Result, Ok, Err}
use Rattle.rkt_base.specs.declared.poll.Poll.{Poll}
use Rattle.rkt_base.specs.declared.poll.Poll.TheVariants.{Ready, Pending}
use Rattle.rkt_source.specs.Memory.{counted}
use Rattle.rkt_source.specs.Sink.{SinkMeaning}
use Rattle.rkt_source.specs.Source.{Meaning}
use Rattle.rkt_source.specs.declared.sink.SinkError.{SinkError}
use Rattle.rkt_source.specs.declared.sink.SinkError.TheVariants.{SinkFault, NoMemory}
use Rattle.rkt_source.specs.declared.source.SourceError.{SourceError}
use Rattle.rkt_source.specs.declared.source.SourceError.TheVariants.{SourceFault}
use Rattle.sample_link.specs.Calls.{Counted, Turns}
use Rattle.sample_link.specs.declared.calls.Turn.{Turn}
use Rattle.sample_link.specs.declared.calls.Turn.TheVariants.{Waits, Goes, Fails}

-- the end that takes bytes
pub record TakingEnd : Type 0 where
  pub bytes : List ℕ
  -- the most that one write takes
  pub room : ℕ
  -- how many bytes it takes in all: then the other side has closed
  pub closed_after : ℕ
  pub calls : Counted

-- the end that gives bytes
pub record GivingEnd : Type 0 where
  pub bytes : List ℕ
  -- how many were given
  pub at : ℕ
  -- the most that one read gives
  pub chunk : ℕ
  pub calls : Counted

-- it never says that it does not fail
abbrev pub taking_meaning : TakingEnd → SinkMeaning
taking_meaning s = record {
  held = Some s.bytes;
  faults = s.calls.faults;
  never_faults = false;
  pended = s.calls.pended;
  pendings = s.calls.pended + length s.calls.pends;
}

-- it never says that it does not fail
abbrev pub giving_meaning : GivingEnd → Meaning
giving_meaning s = record {
  whole = Some s.bytes;
  taken = s.at;
  faults = s.calls.faults;
  never_faults = false;
  warned = false;
  shut = false;
  pended = s.calls.pended;
  pendings = s.calls.pended + length s.calls.pends;
}

-- a write that is made takes as much as there is room for and the other side still reads; where that has closed it has failed
abbrev pub Takes : TakingEnd → List ℕ → Result ℕ SinkError → TakingEnd → Type 0
Takes old piece (Ok count) new =
    (length old.bytes < old.closed_after) × (count ≡ min (min old.room (old.closed_after - length old.bytes)) (length piece))
    × (new ≡ record old { bytes = old.bytes ++ take count piece })
Takes old piece (Err SinkFault) new =
    (old.closed_after ≤ length old.bytes)
    × (new ≡ record old { calls = record old.calls { faults = counted old.calls.faults } })
Takes old piece (Err NoMemory) new = new ≡ old

-- a write whose call has this turn
abbrev pub TakesBy : Turn → TakingEnd → List ℕ → Poll (Result ℕ SinkError) → TakingEnd → Type 0
TakesBy Waits old piece answer new = (answer ≡ Pending) × (new ≡ old)
TakesBy Fails old piece answer new = (answer ≡ Ready (Err SinkFault)) × (new ≡ old)
TakesBy Goes old piece answer new = (taken : Result ℕ SinkError) × (answer ≡ Ready taken) × Takes old piece taken new

-- a write waits or has failed as its call says, or is made
abbrev pub TakesMore : TakingEnd → List ℕ → Poll (Result ℕ SinkError) → TakingEnd → Type 0
TakesMore old piece answer new =
    (turn : Turn) × (calls : Counted)
    × Turns old.calls turn calls
    × TakesBy turn (record old { calls = calls }) piece answer new

-- a read into this much room waits, gives the next bytes, or has failed, as its call says
abbrev pub ReadsMore : GivingEnd → ℕ → Poll (Result ℕ SourceError) → GivingEnd → Type 0
ReadsMore old room Pending new = Turns old.calls Waits new.calls × (new ≡ record old { calls = new.calls })
ReadsMore old room (Ready (Ok count)) new =
    Turns old.calls Goes new.calls × (count ≡ min (min old.chunk room) (length old.bytes - old.at))
    × (new ≡ record old { at = old.at + count; calls = new.calls })
ReadsMore old room (Ready (Err e)) new =
    Turns old.calls Fails new.calls × (new ≡ record old { calls = new.calls }) × (e ≡ SourceFault)
