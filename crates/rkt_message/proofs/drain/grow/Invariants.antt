use Rattle.std.proofs.Common.{take, vec_len, ◌^◌, ◌-◌, ◌≤◌}
use Rattle.rkt_data.specs.CountedSource.{gave}
use Rattle.rkt_message.specs.Whole.{Draws}
use Rattle.rkt_message.proofs.drain.grow.Given as goal

abbrev pub invariant-loop-gate : goal.invariant-loop-gate
invariant-loop-gate g l = Draws g.S.Source.meaning g.S.Source.polled l.gate gave l.fn.body l.body (take l.count l.fn.room.items) (take l.n l.room.items) × (l.n ≤ vec_len l.room)

-- the buffer cannot grow for ever
abbrev pub decreases-loop-gate : goal.decreases-loop-gate
decreases-loop-gate g l = 2 ^ 64 - l.n
