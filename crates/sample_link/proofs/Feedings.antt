-- Writes of what is left, one after another.
use Rattle.std.proofs.Common.{ℕ, ◌++◌, ◌∙◌, List, Result, Ok, sym, ap, append_assoc}
use Rattle.rkt_base.specs.declared.poll.Poll.{Poll}
use Rattle.rkt_base.specs.declared.poll.Poll.TheVariants.{Ready}
use Rattle.rkt_source.specs.Sink.{FeedEnding}
use Rattle.rkt_source.specs.declared.sink.SinkError.{SinkError}
use Rattle.rkt_source.proofs.Sinks.{FeedsTo-after}
use Rattle.sample_link.specs.Writing.{FeedsFront}

pub FeedsFront-after : {K : Type 0} (written : K → List ℕ → Poll (Result ℕ SinkError) → K → Type 0) (how : FeedEnding) (k l m : K) (whole rest left : List ℕ) → FeedsFront written (Ready (Ok tt)) k whole l rest → FeedsFront written how l rest m left
    → FeedsFront written how k whole m left
FeedsFront-after written how k l m whole rest left p q =
    (p.0 ++ q.0, p.1 ∙ ap (λ z. p.0 ++ z) q.1 ∙ sym (append_assoc p.0 q.0 left), FeedsTo-after written how k l m p.0 q.0 p.2 q.2)
