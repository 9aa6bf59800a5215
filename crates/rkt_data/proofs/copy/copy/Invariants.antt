use Rattle.std.proofs.Common.{Ok, false, length, ◌-◌, ◌≡◌, ◌≤◌, ◌<◌}
use Rattle.rkt_base.specs.declared.poll.Poll.TheVariants.{Ready}
use Rattle.rkt_data.specs.Sending.{Pumps, between}
use Rattle.rkt_data.proofs.copy.copy.Given as goal

abbrev pub invariant-loop-e : goal.invariant-loop-e
invariant-loop-e g l =
    Pumps g.S.Source.meaning g.S.Source.polled g.K.Sink.meaning g.K.Sink.written l.gate (Ready (Ok false)) l.fn.pipe l.pipe l.fn.sink l.sink (between l.at l.end l.fn.buf) (between l.from l.to l.buf) × (l.from ≤ l.to) × (l.to ≤ length l.buf) × (0 < length l.buf) × (length l.buf ≡ length l.fn.buf)

abbrev pub decreases-loop-e : goal.decreases-loop-e
decreases-loop-e g l = l.pipe.opened.limit - l.pipe.opened.given
