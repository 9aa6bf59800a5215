-- How the routes that a request is tried on are walked.
use Rattle.std.specs.Prelude.{◌≡◌, ◌-◌, ◌+◌, ℕ, List, Option, Some, None, length, map, slice_get, slice_index}
use Rattle.std.specs.Borrow.{Bor}
use Rattle.std.specs.Iterator.{Count, Drains, at_most}
use Rattle.std.specs.List.{All}
use Rattle.rkt_request.specs.Seen.{Seen}
use Rattle.rkt_router.specs.Order.{IsFirstAt, IsFirstMatch}
use Rattle.rkt_router.specs.Tries.{IsTries}
use Rattle.rkt_route.specs.declared.route.Route.{Route}

-- a walk, as contracts see it
pub record SeenTries (H S V : Type 0) : Type 0 where
  pub routes : List (Route H S)
  -- all positions, in the order in which they are tried
  pub order : List ℕ
  pub request : Seen V
  -- how many of these have been looked at
  pub place : ℕ

-- an item: a position, and the route there
abbrev pub Try : Type 0 → Type 0 → Type 0
Try H S = ℕ × Bor (Route H S)

-- the next item is the first match that is left, and the walk goes on behind it; it ends where none is left
abbrev pub TriesOn : {H S V : Type 0} → SeenTries H S V → Option (Try H S) → SeenTries H S V → Type 0
TriesOn s None t = IsFirstMatch s.routes s.order s.request s.place None × (t ≡ s)
TriesOn s (Some item) t =
    (at : ℕ)
    × IsFirstAt s.routes s.order s.request s.place at
    × (item.0 ≡ slice_index s.order at)
    × (slice_get s.routes item.0 ≡ Some item.1.now)
    × (t ≡ record s { place = at + 1 })

-- no more items come than positions are left
abbrev pub most_left : {H S V : Type 0} → SeenTries H S V → Count
most_left s = at_most (length s.order - s.place)

-- the items of a walk are the tries of a request, in order, each with its route
pub record GivesTries {H S V : Type 0} (walk : SeenTries H S V) (routes : List (Route H S)) (request : Seen V) : Type 0 where
  pub tries : (items : List (Try H S)) → Drains TriesOn walk items → IsTries routes request (map (λ item. item.0) items)
  pub lent : (items : List (Try H S))
      → Drains TriesOn walk items
      → All (λ item. slice_get routes item.0 ≡ Some item.1.now) items
