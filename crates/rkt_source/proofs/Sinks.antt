-- Writes to a sink, one after another.
use Rattle.std.proofs.Common.{ℕ, ◌++◌, List, take, Result, Ok, Err, append_assoc, append-nil}
use Rattle.rkt_base.specs.declared.poll.Poll.{Poll}
use Rattle.rkt_base.specs.declared.poll.Poll.TheVariants.{Ready, Pending}
use Rattle.rkt_source.specs.Sink.{Feeds, FeedEnding, FeedsTo}
use Rattle.rkt_source.specs.declared.sink.SinkError.{SinkError}

pub Feeds-trans : {K : Type 0} {written : K → List ℕ → Poll (Result ℕ SinkError) → K → Type 0} {k l m : K} {xs ys : List ℕ} → Feeds written k xs l → Feeds written l ys m → Feeds written k (xs ++ ys) m
Feeds-trans {xs = xs} p Feeds.none = rw (append-nil xs) p
Feeds-trans {xs = xs} p (Feeds.more {bytes = bytes} {piece = piece} {n = n} q some w) = rw (← append_assoc xs bytes (take n piece)) (Feeds.more (Feeds-trans p q) some w)

-- behind writes that took some bytes each
pub FeedsTo-after : {K : Type 0} (written : K → List ℕ → Poll (Result ℕ SinkError) → K → Type 0) (how : FeedEnding) (k l m : K) (xs ys : List ℕ) → Feeds written k xs l → FeedsTo written how l ys m → FeedsTo written how k (xs ++ ys) m
FeedsTo-after written Pending k l m xs ys p q = (q.0, q.1, q.2, Feeds-trans p q.3, q.4)
FeedsTo-after written (Ready (Ok x)) k l m xs ys p q = Feeds-trans p q
FeedsTo-after written (Ready (Err e)) k l m xs ys p q = (q.0, q.1, q.2, Feeds-trans p q.3, q.4)
