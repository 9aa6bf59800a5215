use Rattle.std.proofs.Common.{◌≡◌, ◌-◌, length, map, All, vec_len, List}
use Rattle.rkt_turn.specs.Booked.{StartsWith}
use Rattle.rkt_turn.specs.Known.{joined_all, HaveSeen}
use Rattle.rkt_turn.specs.Pass.{known, IsPassOf, IsSameLock, IsIdle, IsFirst}
use Rattle.rkt_turn.proofs.pass.PassOf+S+S+Name+S+Entry.join_all.Given as goal

-- whatever the passes that are left lead to, all of them lead to
abbrev pub invariant-loop-pass : goal.invariant-loop-pass
invariant-loop-pass g l = (IsPassOf l.turnstile l.self × IsFirst l.self × IsIdle l.self)
    × IsSameLock l.initial.self l.self
    × (joined_all (known l.self) (map known l.passes.items) ≡ joined_all (known l.initial.self) (map known l.initial.passes.items))
    × (length (known l.self).out - vec_len l.passes ≡ length (known l.initial.self).out - vec_len l.initial.passes)
    × StartsWith (known l.self).seen (known l.initial.self).seen
    × ((list : List g.row.S-Entry.Denot) → StartsWith list (known l.self).seen → HaveSeen list (map known l.passes.items) → HaveSeen list (map known l.initial.passes.items))
    × All (λ p. IsPassOf l.turnstile p × IsIdle p) l.passes.items

abbrev pub decreases-loop-pass : goal.decreases-loop-pass
decreases-loop-pass g l = vec_len l.passes
