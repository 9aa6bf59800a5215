-- What a sink means, and what one write to it may do.
use Rattle.std.specs.Prelude.{◌≡◌, ℕ, ◌<◌, ◌≤◌, ◌⊎◌, ◌++◌, Bool, false, List, [], length, take, Option, option_map, Result, Ok, Err}
use Rattle.rkt_base.specs.Counts.{Rose}
use Rattle.rkt_base.specs.declared.poll.Poll.{Poll}
use Rattle.rkt_base.specs.declared.poll.Poll.TheVariants.{Ready, Pending}
use Rattle.rkt_source.specs.declared.sink.SinkError.{SinkError}
use Rattle.rkt_source.specs.declared.sink.SinkError.TheVariants.{SinkFault, NoMemory}

pub record SinkMeaning : Type 0 where
  -- the bytes that it has taken so far, where it tells them
  pub held : Option (List ℕ)
  -- how often it has failed
  pub faults : ℕ
  -- it says that it never fails
  pub never_faults : Bool
  -- how many of its polls were Pending, and a bound on that
  pub pended : ℕ
  pub pendings : ℕ

-- what no write changes, and the counts, which never fall
pub record SinkKeeps (m n : SinkMeaning) : Type 0 where
  pub never_faults : n.never_faults ≡ m.never_faults
  pub pendings : n.pendings ≡ m.pendings
  pub faults : m.faults ≤ n.faults
  pub pended : m.pended ≤ n.pended

-- one poll more was Pending
abbrev pub SinkWaits : SinkMeaning → SinkMeaning → Type 0
SinkWaits m n = (m.pended < n.pended) × (n.pended ≤ m.pendings)

-- a fault comes where the count rose, of a sink that does not say that it never fails
abbrev pub SinkFaulted : SinkMeaning → SinkMeaning → Type 0
SinkFaulted m n = Rose m.faults n.faults × (m.never_faults ≡ false)

-- when each error may come
abbrev pub SinkErrs : SinkError → SinkMeaning → SinkMeaning → Type 0
SinkErrs SinkFault m n = SinkFaulted m n
SinkErrs NoMemory m n = Unit {0}

-- what the sink holds has these bytes more
abbrev pub Gains : SinkMeaning → SinkMeaning → List ℕ → Type 0
Gains m n bytes = n.held ≡ option_map (λ h. h ++ bytes) m.held

-- what a write of a piece answers; to take nothing of a piece that is not empty is a fault
abbrev pub Writes : SinkMeaning → SinkMeaning → List ℕ → Poll (Result ℕ SinkError) → Type 0
Writes m n piece Pending = (n.held ≡ m.held) × SinkWaits m n
Writes m n piece (Ready (Ok k)) = (k ≤ length piece) × Gains m n (take k piece) × (k ≡ 0 → 0 < length piece → SinkFaulted m n)
Writes m n piece (Ready (Err e)) = (n.held ≡ m.held) × SinkErrs e m n

-- any number of writes, each of which took some bytes of the front of its piece, lead from the first to the second; these are
-- the bytes
pub data Feeds {K : Type 0} (written : K → List ℕ → Poll (Result ℕ SinkError) → K → Type 0) : K → List ℕ → K → Type 0 where
  none : {k : K} → Feeds written k [] k
  more : {k l m : K} {bytes piece : List ℕ} {n : ℕ}
      → Feeds written k bytes l
      → 0 < n
      → written l piece (Ready (Ok n)) m
      → Feeds written k (bytes ++ take n piece) m

-- how several writes have ended: each took some bytes, or the last was refused or Pending
abbrev pub FeedEnding : Type 0
FeedEnding = Poll (Result (Unit {0}) SinkError)

-- a write of this piece was refused: with this error, or it took nothing, which is a fault
abbrev pub RefusesPiece : {K : Type 0} → (K → List ℕ → Poll (Result ℕ SinkError) → K → Type 0) → SinkError → K → List ℕ → K
    → Type 0
RefusesPiece written e k piece l = written k piece (Ready (Err e)) l ⊎ ((e ≡ SinkFault) × written k piece (Ready (Ok 0)) l)

-- writes by which the sink took these bytes have ended so: none but the last was refused or Pending
abbrev pub FeedsTo : {K : Type 0} → (K → List ℕ → Poll (Result ℕ SinkError) → K → Type 0) → FeedEnding → K → List ℕ → K → Type 0
FeedsTo written Pending k bytes l =
    (m : _) × (piece : List ℕ) × (0 < length piece) × Feeds written k bytes m × written m piece Pending l
FeedsTo written (Ready (Ok x)) k bytes l = Feeds written k bytes l
FeedsTo written (Ready (Err e)) k bytes l =
    (m : _) × (piece : List ℕ) × (0 < length piece) × Feeds written k bytes m × RefusesPiece written e m piece l
