use Rattle.std.proofs.Common.{arith}
use Rattle.rkt_seat.proofs.seat.look_at.Goals as goal

pub returns-clause-latest : goal.returns-clause-latest
returns-clause-latest g c = omega (arith, c.look-gate.ensures.keeps.holds.latest_by, c.look-gate.ensures.last)
