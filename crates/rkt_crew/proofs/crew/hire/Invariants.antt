use Rattle.std.proofs.Common.{◌≡◌, ◌≤◌, ◌<◌, ◌+◌, ◌-◌, length, All, vec_len}
use Rattle.rkt_crew.specs.Crew.{IsMade}
use Rattle.rkt_turn.specs.Pass.{known, IsPassOf, IsIdle, IsFirst}
use Rattle.rkt_crew.proofs.crew.hire.Given as goal

abbrev pub invariant-loop-posts : goal.invariant-loop-posts
invariant-loop-posts g l = (IsPassOf l.lock l.first × IsFirst l.first × IsIdle l.first)
    × ((known l.first).name ≡ (known l.initial.first).name)
    × ((known l.first).mine ≡ (known l.initial.first).mine)
    × ((known l.first).seen ≡ (known l.initial.first).seen)
    × ((known l.first).back ≡ (known l.initial.first).back)
    × (length (known l.first).out ≡ vec_len l.posts)
    × (l.handle ≡ l.initial.handle)
    × All (IsMade l.lock l.initial.handle l.count (known l.initial.first)) l.posts.items
    × (0 < (known l.first).next)
    × ((known l.first).next ≤ 1 + vec_len l.posts)
    × (vec_len l.posts ≤ l.count)

abbrev pub decreases-loop-posts : goal.decreases-loop-posts
decreases-loop-posts g l = l.count - vec_len l.posts
