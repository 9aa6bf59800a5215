use Rattle.std.proofs.Common.{◌≡◌}
use Rattle.rkt_turn.specs.Pass.{known}
use Rattle.rkt_seat.specs.Seat.{TookTurn}
use Rattle.rkt_seat.proofs.seat.end.Given as goal

abbrev pub invariant-loop : goal.invariant-loop
invariant-loop g l =
    (goal.iterator-loop g).can_next l.iterator' × (goal.iterator-loop g).is_finite l.iterator'
    × TookTurn l.lock l.initial.pass l.pass
    × ((known l.pass).mine ≡ (known l.initial.pass).mine)
    × (l.entry ≡ l.initial.entry)
    × (l.by ≡ (known l.initial.pass).number)
