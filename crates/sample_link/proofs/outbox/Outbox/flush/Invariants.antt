use Rattle.std.proofs.Common.{Ok, length}
use Rattle.rkt_base.specs.declared.poll.Poll.TheVariants.{Ready}
use Rattle.rkt_source.specs.Sink.{SinkKeeps}
use Rattle.sample_link.specs.Writing.{FeedsFront, NoneLost}
use Rattle.sample_link.proofs.outbox.Outbox.flush.Given as goal

abbrev pub invariant-loop-self : goal.invariant-loop-self
invariant-loop-self g l =
    let meaning = g.K.Sink.meaning in
    record {
      kept : SinkKeeps (meaning l.fn.sink) (meaning l.sink);
      bytes : NoneLost (meaning l.fn.sink) l.fn.self (meaning l.sink) l.self;
      fed : FeedsFront g.K.Sink.written (Ready (Ok tt)) l.fn.sink l.fn.self l.sink l.self;
    }

abbrev pub decreases-loop-self : goal.decreases-loop-self
decreases-loop-self g l = length l.self
