use Rattle.std.proofs.Common.{length, take, ◌-◌, ◌≤◌}
use Rattle.rkt_data.specs.CountedSource.{gave}
use Rattle.rkt_data.specs.Gathering.{Draws}
use Rattle.rkt_data.proofs.drain.pour.Given as goal

abbrev pub invariant-loop-n : goal.invariant-loop-n
invariant-loop-n g l = Draws g.S.Source.meaning g.S.Source.polled l.gate gave l.fn.pipe l.pipe (take l.count l.fn.room) (take l.n l.room) × (l.n ≤ length l.room)

abbrev pub decreases-loop-n : goal.decreases-loop-n
decreases-loop-n g l = length l.initial.room - l.n
