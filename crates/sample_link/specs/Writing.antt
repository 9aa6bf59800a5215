-- What becomes of bytes that are written to a sink.
use Rattle.std.specs.Prelude.{◌≡◌, ℕ, ◌<◌, ◌++◌, List, [], length, Option, option_map, Result, Ok, Err}
use Rattle.rkt_base.specs.declared.poll.Poll.{Poll}
use Rattle.rkt_base.specs.declared.poll.Poll.TheVariants.{Ready, Pending}
use Rattle.rkt_source.specs.Sink.{SinkMeaning, SinkWaits, SinkErrs, FeedEnding, FeedsTo}
use Rattle.rkt_source.specs.declared.sink.SinkError.{SinkError}

-- the bytes that a sink has taken, and these behind them, where it tells them
abbrev pub followed : SinkMeaning → List ℕ → Option (List ℕ)
followed sink rest = option_map (λ held. held ++ rest) sink.held

-- what was to be written was taken or is still to be written: no byte is lost, and none is written twice
abbrev pub NoneLost : SinkMeaning → List ℕ → SinkMeaning → List ℕ → Type 0
NoneLost old before new after = followed new after ≡ followed old before

-- writes that have ended so took a front of what was to be written, and the rest is left
abbrev pub FeedsFront : {K : Type 0} → (K → List ℕ → Poll (Result ℕ SinkError) → K → Type 0) → FeedEnding → K → List ℕ → K
    → List ℕ → Type 0
FeedsFront written how k before l after = (bytes : List ℕ) × (before ≡ bytes ++ after) × FeedsTo written how k bytes l

-- one write: some of the bytes were taken, or the sink has answered otherwise
abbrev pub WritesSome : Poll (Result (Unit {0}) SinkError) → SinkMeaning → List ℕ → SinkMeaning → List ℕ → Type 0
WritesSome Pending old before new after = (after ≡ before) × SinkWaits old new
WritesSome (Ready (Ok done)) old before new after = length after < length before
WritesSome (Ready (Err e)) old before new after = SinkErrs e old new

-- as many writes as the sink takes: it has all, or it waits with some left, or it has failed
abbrev pub EndsAs : Poll (Result (Unit {0}) SinkError) → SinkMeaning → SinkMeaning → List ℕ → Type 0
EndsAs Pending old new left = (0 < length left) × SinkWaits old new
EndsAs (Ready (Ok done)) old new left = left ≡ []
EndsAs (Ready (Err e)) old new left = SinkErrs e old new
