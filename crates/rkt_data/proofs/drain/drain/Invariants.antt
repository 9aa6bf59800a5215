use Rattle.std.proofs.Common.{take, vec_len, ◌+◌, ◌≡◌, ◌≤◌}
use Rattle.rkt_data.specs.CountedSource.{gave}
use Rattle.rkt_data.specs.Gathering.{Draws}
use Rattle.rkt_data.proofs.drain.drain.Given as goal

abbrev pub invariant-loop-left : goal.invariant-loop-left
invariant-loop-left g l =
    Draws g.S.Source.meaning g.S.Source.polled l.gate gave l.fn.pipe l.pipe (take l.count l.fn.room.items) (take l.n l.room.items)
    × (l.n ≤ vec_len l.room) × (l.left + l.pipe.opened.given ≡ l.pipe.opened.limit)

abbrev pub decreases-loop-left : goal.decreases-loop-left
decreases-loop-left g l = l.left
