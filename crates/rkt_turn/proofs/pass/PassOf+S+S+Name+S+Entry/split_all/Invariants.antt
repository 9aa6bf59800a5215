use Rattle.std.proofs.Common.{◌≡◌, ◌≤◌, ◌+◌, ◌-◌, length, map, All, vec_len, vec_capacity}
use Rattle.rkt_turn.specs.Known.{drawn, split_off}
use Rattle.rkt_turn.specs.Pass.{known, IsPassOf, IsSameLock, IsIdle, IsFirst, IsNew}
use Rattle.rkt_turn.proofs.pass.PassOf+S+S+Name+S+Entry.split_all.Given as goal

abbrev pub invariant-loop-passes : goal.invariant-loop-passes
invariant-loop-passes g l = (IsPassOf l.turnstile l.self × IsFirst l.self × IsIdle l.self)
    × IsSameLock l.initial.self l.self
    × (known l.self ≡ drawn (vec_len l.passes) (known l.initial.self))
    × (map known l.passes.items ≡ split_off (vec_len l.passes) (known l.initial.self))
    × All (λ p. IsNew l.turnstile p) l.passes.items
    × All (λ p. (known p).name ≡ (known l.initial.self).name) l.passes.items
    × (length (known l.self).out ≡ length (known l.initial.self).out + vec_len l.passes)
    × ((known l.self).mine ≡ (known l.initial.self).mine)
    × (vec_len l.passes ≤ l.count)
    × (l.count ≤ vec_capacity l.passes)

abbrev pub decreases-loop-passes : goal.decreases-loop-passes
decreases-loop-passes g l = l.count - vec_len l.passes
