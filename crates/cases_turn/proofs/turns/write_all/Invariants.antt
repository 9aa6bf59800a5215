use Rattle.std.proofs.Common.{◌≡◌, ◌-◌, ◌≤◌, false, length}
use Rattle.rkt_turn.specs.Known.{SamePlace}
use Rattle.rkt_turn.specs.Pass.{known, IsPassOf, IsIdle}
use Rattle.cases_turn.specs.Diary.{open_after, IsPlanned}
use Rattle.cases_turn.proofs.turns.write_all.Given as goal

abbrev pub invariant-loop-entries : goal.invariant-loop-entries
invariant-loop-entries g l = (IsPassOf l.lock l.pass × IsIdle l.pass)
    × SamePlace (known l.initial.pass) (known l.pass)
    × IsPlanned l.plan (known l.pass)
    × (open_after false (known l.pass).mine ≡ l.open)
    × (length (known l.pass).mine ≡ l.entries)
    × (l.entries ≤ l.plan.turns)

abbrev pub decreases-loop-entries : goal.decreases-loop-entries
decreases-loop-entries g l = l.plan.turns - l.entries
