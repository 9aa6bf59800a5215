use Rattle.std.proofs.Common.{◌≡◌, ◌++◌, length, map, All, vec_len}
use Rattle.std.specs.Prelude.{IfSome, Some}
use Rattle.rkt_turn.specs.Booked.{StartsWith}
use Rattle.rkt_crew.specs.Crew.{from_post, HasSeenOf}
use Rattle.rkt_turn.specs.HandsBack.{HandsBack}
use Rattle.rkt_turn.specs.Shutdown.{Handle}
use Rattle.rkt_turn.specs.Pass.{known, IsPassOf, IsIdle, IsFirst}
use Rattle.rkt_crew.proofs.crew.gather.Given as goal

-- what came back of the posts that were taken, with what is still to come, is what comes back of all
abbrev pub invariant-loop-post : goal.invariant-loop-post
invariant-loop-post g l = (IsPassOf l.lock l.first × IsFirst l.first × IsIdle l.first)
    × ((known l.first).name ≡ (known l.initial.first).name)
    × ((known l.first).mine ≡ (known l.initial.first).mine)
    × StartsWith (known l.first).seen (known l.initial.first).seen
    × (map from_post l.posts.items ++ (known l.first).back ≡ map from_post l.initial.posts.items ++ (known l.initial.first).back)
    × (length (known l.first).out ≡ vec_len l.posts)
    × HandsBack l.initial.handle l.handle
    × ((last : Handle) → HandsBack l.handle last → All (HasSeenOf (Some last)) l.posts.items → All (HasSeenOf (Some last)) l.initial.posts.items)
    × All (λ post. IsPassOf l.lock post.pass × IsIdle post.pass) l.posts.items
    × All (λ post. IfSome post.handle (λ theirs. theirs.wire ≡ l.initial.handle.wire)) l.posts.items

abbrev pub decreases-loop-post : goal.decreases-loop-post
decreases-loop-post g l = vec_len l.posts
